use Rattle.std.proofs.Common.{rules, ◌≡◌, refl, ap}
use Rattle.std.specs.Prelude.{Err}
use Rattle.app_files.specs.declared.status.Status.TheVariants as status
use Rattle.app_files.specs.declared.stop.Stop.TheVariants as stop
use Rattle.app_store.specs.declared.stop.StoreStop.TheVariants as why
use Rattle.store_keeper.specs.Stored.{stored_of}
use Rattle.app_serve.proofs.Asking.{refused-run, served-run, stopped-run}
use Rattle.app_serve.proofs.program.run_serve.Goals as goal

pub returns-in-Ok : goal.returns-in-Ok
returns-in-Ok g c =
    let kept = c.serve_over.ensures.store in
    served-run g.F.Shelf.told g.F.Shelf.calls g.F.Shelf.faults g.S.Source.told g.S.Source.faults g.K.Keeper.told g.K.Keeper.calls g.K.Keeper.faults g.W.Sink.told g.W.Sink.faults
    c.args.shelf.now c.serve_over.new.shelf c.args.input.now c.serve_over.new.input c.args.store.now c.ask_held.new.store c.serve_over.new.store c.args.out.now c.serve_over.new.out c.serve_over.result
    (stored_of c.in-Ok.stored) _ kept.0 c.in-Ok.ensures.held c.in-Ok.ensures.same c.in-Ok.ensures.store c.serve_over.ensures.served kept.1

pub returns-in-Err-Refused : goal.returns-in-Err-Refused
returns-in-Err-Refused g c =
    let e = c.in-Err-Refused.ensures in
    let same : c.in-Err-Refused.field-0 ≡ why.Refused c.in-Err-Refused.refusal = first_of (cc, search rules) in
    refused-run g.F.Shelf.told g.F.Shelf.calls g.F.Shelf.faults g.S.Source.told g.S.Source.faults g.K.Keeper.told g.K.Keeper.calls g.K.Keeper.faults g.W.Sink.told g.W.Sink.faults
    c.args.shelf.now c.args.input.now c.args.store.now c.ask_held.new.store c.args.out.now c.refuse.new.out c.refuse.result c.in-Err-Refused.refusal _ (rw same at e.held) e.same e.store c.refuse.ensures.not_kept c.refuse.ensures.told c.refuse.ensures.out

pub returns-in-Err-Files-OutOfMemory : goal.returns-in-Err-Files-OutOfMemory
returns-in-Err-Files-OutOfMemory g c =
    let e = c.in-Err-Files-OutOfMemory.ensures in
    let same : c.in-Err-Files-OutOfMemory.field-0 ≡ why.Files stop.OutOfMemory = first_of (cc, search rules) in
    stopped-run g.F.Shelf.told g.F.Shelf.calls g.F.Shelf.faults g.S.Source.told g.S.Source.faults g.K.Keeper.told g.K.Keeper.calls g.K.Keeper.faults g.W.Sink.told g.W.Sink.faults
    c.args.shelf.now c.args.input.now c.args.store.now c.ask_held.new.store c.args.out.now status.OutOfMemory (why.Files stop.OutOfMemory) _ (rw same at e.held) e.same e.store (λ w. absurd cc) (λ w. cc) refl

pub returns : goal.returns
returns g c =
    let e = c.in-Err-StoreFault.ensures in
    let same : c.in-Err-StoreFault.field-0 ≡ why.StoreFault = first_of (cc, search rules) in
    stopped-run g.F.Shelf.told g.F.Shelf.calls g.F.Shelf.faults g.S.Source.told g.S.Source.faults g.K.Keeper.told g.K.Keeper.calls g.K.Keeper.faults g.W.Sink.told g.W.Sink.faults
    c.args.shelf.now c.args.input.now c.args.store.now c.ask_held.new.store c.args.out.now status.StoreFault why.StoreFault _ (rw same at e.held) e.same e.store (λ w. ap (λ z. Err z) same) (λ w. cc) refl
