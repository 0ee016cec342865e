use Rattle.store_keeper.specs.Stored.{stored_of}
use Rattle.app_serve.proofs.Asking.{not-begun}
use Rattle.app_serve.proofs.program.serve_over.Goals as goal

pub returns-in_default-clause-served : goal.returns-in_default-clause-served
returns-in_default-clause-served g c =
    not-begun g.F.Shelf.told g.F.Shelf.calls g.F.Shelf.faults g.S.Source.told g.S.Source.faults g.K.Keeper.told g.K.Keeper.calls g.K.Keeper.faults g.W.Sink.told g.W.Sink.faults
    c.args.shelf.now c.args.input.now c.args.store.now c.args.out.now (stored_of c.args.stored) c.requires
