use Rattle.std.proofs.Common.{rules, ◌≡◌, ◌++◌}
use Rattle.std.specs.Prelude.{Err}
use Rattle.app_store.proofs.Ran.{kept-more}
use Rattle.door_serve.specs.DoorState.{state_of}
use Rattle.store_keeper.specs.Stored.{stored_of}
use Rattle.app_serve.proofs.Turning.{served-failed, served-whole, under-way-less, under-way-next, under-way-start}
use Rattle.app_serve.proofs.service.Service.serve.Goals as goal

pub lines-init : goal.lines-init
lines-init g c =
    under-way-start g.F.Shelf.told g.F.Shelf.calls g.F.Shelf.faults g.S.Source.told g.S.Source.faults g.K.Keeper.told g.K.Keeper.calls g.K.Keeper.faults g.W.Sink.told g.W.Sink.faults
    c.args.shelf.now c.args.input.now c.args.store.now c.args.out.now c.args.self.now.lines (state_of c.args.self.now.door) c.requires.none c.requires.fresh c.requires.taken c.requires.line_limit c.requires.budget c.requires.held

pub returns-in_err-turn-clause-served : goal.returns-in_err-turn-clause-served
returns-in_err-turn-clause-served g c =
    let is : c.from_residual.result ≡ Err c.in_err-turn.field-0.0 = search rules in
    let over =
    served-failed g.F.Shelf.told g.F.Shelf.calls g.F.Shelf.faults g.S.Source.told g.S.Source.faults g.K.Keeper.told g.K.Keeper.calls g.K.Keeper.faults g.W.Sink.told g.W.Sink.faults
    c.args.shelf.now c.lines.shelf c.turn.new.shelf c.args.input.now c.lines.input c.turn.new.input c.args.store.now c.lines.store c.turn.new.store c.args.out.now c.lines.out c.turn.new.out
    (stored_of c.args.self.now.door.stored) c.lines.self.lines c.turn.new.self.lines (state_of c.lines.self.door) (state_of c.turn.new.self.door)
    c.in_err-turn.field-0.0 c.lines.invariant c.in_err-turn.ensures.turned in
    rw is over

pub returns-in_err-turn-clause-store : goal.returns-in_err-turn-clause-store
returns-in_err-turn-clause-store g c =
    let t = c.in_err-turn.ensures.turned in
    (c.lines.invariant.made ++ t.made, kept-more g.K.Keeper.calls g.K.Keeper.faults c.args.store.now c.lines.store c.turn.new.store c.lines.invariant.made t.made ⊥ ⊥ c.lines.invariant.kept_so t.kept_so)

pub lines-smaller : goal.lines-smaller
lines-smaller g c =
    under-way-less g.F.Shelf.told g.F.Shelf.calls g.F.Shelf.faults g.S.Source.told g.S.Source.faults g.K.Keeper.told g.K.Keeper.calls g.K.Keeper.faults g.W.Sink.told g.W.Sink.faults
    c.args.shelf.now c.lines.shelf c.turn.new.shelf c.args.input.now c.lines.input c.turn.new.input c.args.store.now c.lines.store c.turn.new.store c.args.out.now c.lines.out c.turn.new.out
    (stored_of c.args.self.now.door.stored) c.lines.self.lines c.turn.new.self.lines (state_of c.lines.self.door) (state_of c.turn.new.self.door) c.lines.invariant (rw c.in-Answered.is at c.in_ok-turn.ensures.turned)

pub lines-preserved : goal.lines-preserved
lines-preserved g c =
    under-way-next g.F.Shelf.told g.F.Shelf.calls g.F.Shelf.faults g.S.Source.told g.S.Source.faults g.K.Keeper.told g.K.Keeper.calls g.K.Keeper.faults g.W.Sink.told g.W.Sink.faults
    c.args.shelf.now c.lines.shelf c.turn.new.shelf c.args.input.now c.lines.input c.turn.new.input c.args.store.now c.lines.store c.turn.new.store c.args.out.now c.lines.out c.turn.new.out
    (stored_of c.args.self.now.door.stored) c.lines.self.lines c.turn.new.self.lines (state_of c.lines.self.door) (state_of c.turn.new.self.door) c.lines.invariant (rw c.in-Answered.is at c.in_ok-turn.ensures.turned) c.turn.ensures.stored

pub returns-in-Ended-clause-served : goal.returns-in-Ended-clause-served
returns-in-Ended-clause-served g c =
    served-whole g.F.Shelf.told g.F.Shelf.calls g.F.Shelf.faults g.S.Source.told g.S.Source.faults g.K.Keeper.told g.K.Keeper.calls g.K.Keeper.faults g.W.Sink.told g.W.Sink.faults
    c.args.shelf.now c.lines.shelf c.turn.new.shelf c.args.input.now c.lines.input c.turn.new.input c.args.store.now c.lines.store c.turn.new.store c.args.out.now c.lines.out c.turn.new.out
    (stored_of c.args.self.now.door.stored) c.lines.self.lines c.turn.new.self.lines (state_of c.lines.self.door) (state_of c.turn.new.self.door) c.lines.invariant (rw c.in-Ended.is at c.in_ok-turn.ensures.turned)

pub returns-in-Ended-clause-store : goal.returns-in-Ended-clause-store
returns-in-Ended-clause-store g c =
    let t = c.in_ok-turn.ensures.turned in
    (c.lines.invariant.made ++ t.made, kept-more g.K.Keeper.calls g.K.Keeper.faults c.args.store.now c.lines.store c.turn.new.store c.lines.invariant.made t.made ⊥ ⊥ c.lines.invariant.kept_so t.kept_so)
