use Rattle.std.proofs.Common.{refl, ap, ◌∙◌}
use Rattle.std.specs.Prelude.{Ok, Err}
use Rattle.app_files.specs.declared.status.Status.TheVariants as exit
use Rattle.app_files.specs.declared.stop.Stop.TheVariants as stop
use Rattle.app_store.specs.declared.answer.StoreAnswer.TheVariants as answer
use Rattle.app_store.specs.declared.stop.StoreStop.TheVariants as why
use Rattle.app_store.proofs.Run.{passed-on, run-of, stopped-run}
use Rattle.app_store.proofs.program.run_store.Goals as goal

pub returns-in-Ok : goal.returns-in-Ok
returns-in-Ok g c =
    let ran = c.in-Ok.ensures.ran in
    let (made, finished, kept) = c.answered.ensures.finished in
    run-of g.F.Shelf.told g.F.Shelf.calls g.F.Shelf.faults g.K.Keeper.told g.K.Keeper.calls g.K.Keeper.faults g.W.Sink.told g.W.Sink.faults _ _ _ _ _ _ _ _ _ (Ok c.in-Ok.answer) ran c.in-Ok.answer
    (passed-on _ _ ran.calls c.in-Ok.answer ran.came) made finished kept c.answered.ensures.out c.answered.ensures.not_read

pub returns-in-Err-Refused : goal.returns-in-Err-Refused
returns-in-Err-Refused g c =
    let ran = rw c.in-Err-Refused.field-0-is at c.in-Err-Refused.ensures.ran in
    let (made, finished, kept) = c.answered-in-Err-Refused.ensures.finished in
    run-of g.F.Shelf.told g.F.Shelf.calls g.F.Shelf.faults g.K.Keeper.told g.K.Keeper.calls g.K.Keeper.faults g.W.Sink.told g.W.Sink.faults _ _ _ _ _ _ _ _ _ (Err (why.Refused c.in-Err-Refused.why)) ran
    (answer.Refused c.in-Err-Refused.why) ran.came made finished kept c.answered-in-Err-Refused.ensures.out c.answered-in-Err-Refused.ensures.not_read

pub returns-in-Err-Files-Refused : goal.returns-in-Err-Files-Refused
returns-in-Err-Files-Refused g c =
    let is = c.in-Err-Files-Refused.field-0-is ∙ ap why.Files c.in-Err-Files-Refused.field-0-0-is in
    let ran = rw is at c.in-Err-Files-Refused.ensures.ran in
    let (made, finished, kept) = c.answered-in-Err-Files-Refused.ensures.finished in
    run-of g.F.Shelf.told g.F.Shelf.calls g.F.Shelf.faults g.K.Keeper.told g.K.Keeper.calls g.K.Keeper.faults g.W.Sink.told g.W.Sink.faults _ _ _ _ _ _ _ _ _ (Err (why.Files (stop.Refused c.in-Err-Files-Refused.why))) ran
    (answer.FilesRefused c.in-Err-Files-Refused.why) ran.came made finished kept c.answered-in-Err-Files-Refused.ensures.out c.answered-in-Err-Files-Refused.ensures.not_read

pub returns-in-Err-Files-ReadFault : goal.returns-in-Err-Files-ReadFault
returns-in-Err-Files-ReadFault g c =
    let is = c.in-Err-Files-ReadFault.field-0-is ∙ ap why.Files c.in-Err-Files-ReadFault.field-0-0-is in
    let ran = rw is at c.in-Err-Files-ReadFault.ensures.ran in
    stopped-run g.F.Shelf.told g.F.Shelf.calls g.F.Shelf.faults g.K.Keeper.told g.K.Keeper.calls g.K.Keeper.faults g.W.Sink.told g.W.Sink.faults _ _ _ _ _ _ exit.ReadFault (why.Files stop.ReadFault) ran refl (λ e. refl) (λ e. absurd cc) (λ e. cc)

pub returns-in-Err-Files-OutOfMemory : goal.returns-in-Err-Files-OutOfMemory
returns-in-Err-Files-OutOfMemory g c =
    let is = c.in-Err-Files-OutOfMemory.field-0-is ∙ ap why.Files c.in-Err-Files-OutOfMemory.field-0-0-is in
    let ran = rw is at c.in-Err-Files-OutOfMemory.ensures.ran in
    stopped-run g.F.Shelf.told g.F.Shelf.calls g.F.Shelf.faults g.K.Keeper.told g.K.Keeper.calls g.K.Keeper.faults g.W.Sink.told g.W.Sink.faults _ _ _ _ _ _ exit.OutOfMemory (why.Files stop.OutOfMemory) ran refl (λ e. absurd cc) (λ e. absurd cc) (λ e. cc)

pub returns-in-Err-StoreFault : goal.returns-in-Err-StoreFault
returns-in-Err-StoreFault g c =
    let ran = rw c.in-Err-StoreFault.field-0-is at c.in-Err-StoreFault.ensures.ran in
    stopped-run g.F.Shelf.told g.F.Shelf.calls g.F.Shelf.faults g.K.Keeper.told g.K.Keeper.calls g.K.Keeper.faults g.W.Sink.told g.W.Sink.faults _ _ _ _ _ _ exit.StoreFault why.StoreFault ran refl (λ e. absurd cc) (λ e. refl) (λ e. cc)
