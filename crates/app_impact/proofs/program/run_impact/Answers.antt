use Rattle.std.proofs.Common.{refl, arith}
use Rattle.app_flow.proofs.OutsideLemmas.{read-as}
use Rattle.app_files.specs.Words.{names_of}
use Rattle.app_impact.specs.Ends.{Answered, NoMemory, Unread}
use Rattle.app_impact.specs.declared.answer.ImpactAnswer.TheVariants.{Found, Refused}
use Rattle.app_impact.proofs.Laws.{impact_run}
use Rattle.app_impact.proofs.program.run_impact.Goals as goal

pub returns-in-Ok : goal.returns-in-Ok
returns-in-Ok g c =
    let (calls, runs, read) = c.in-Ok.ensures in
    impact_run g.F.Shelf.told g.F.Shelf.calls g.F.Shelf.faults g.W.Sink.told g.W.Sink.faults (names_of c.args.names.spec.now c.args.names.script.now) _ _ _ _ _ calls
    (Answered (Found c.in-Ok.found) runs c.put_answer.ensures.put)
    (read-as g.F.Shelf.told g.F.Shelf.calls g.F.Shelf.faults _ _ _ _ _ (λ e. absurd (c.put_answer.ensures.not_read e)) read)
    c.put_answer.ensures.out

pub returns-in-Err-Refused : goal.returns-in-Err-Refused
returns-in-Err-Refused g c =
    let (calls, runs, read) = rw c.in-Err-Refused.field-0-is at c.in-Err-Refused.ensures in
    impact_run g.F.Shelf.told g.F.Shelf.calls g.F.Shelf.faults g.W.Sink.told g.W.Sink.faults (names_of c.args.names.spec.now c.args.names.script.now) _ _ _ _ _ calls
    (Answered (Refused c.in-Err-Refused.refusal) runs c.put_answer-in-Err-Refused.ensures.put)
    (read-as g.F.Shelf.told g.F.Shelf.calls g.F.Shelf.faults _ _ _ _ _ (λ e. absurd (c.put_answer-in-Err-Refused.ensures.not_read e)) read)
    c.put_answer-in-Err-Refused.ensures.out

pub returns-in-Err-ReadFault : goal.returns-in-Err-ReadFault
returns-in-Err-ReadFault g c =
    let (calls, runs, read) = rw c.in-Err-ReadFault.field-0-is at c.in-Err-ReadFault.ensures in
    impact_run g.F.Shelf.told g.F.Shelf.calls g.F.Shelf.faults g.W.Sink.told g.W.Sink.faults (names_of c.args.names.spec.now c.args.names.script.now) _ _ _ _ _ calls (Unread refl runs)
    (read-as g.F.Shelf.told g.F.Shelf.calls g.F.Shelf.faults _ _ _ _ _ (λ e. refl) read)
    (record { kept = λ e. refl; counted = λ e. absurd cc; never_falls = omega arith })

pub returns-in-Err-OutOfMemory : goal.returns-in-Err-OutOfMemory
returns-in-Err-OutOfMemory g c =
    let (calls, runs, read) = rw c.in-Err-OutOfMemory.field-0-is at c.in-Err-OutOfMemory.ensures in
    impact_run g.F.Shelf.told g.F.Shelf.calls g.F.Shelf.faults g.W.Sink.told g.W.Sink.faults (names_of c.args.names.spec.now c.args.names.script.now) _ _ _ _ _ calls (NoMemory refl runs)
    (read-as g.F.Shelf.told g.F.Shelf.calls g.F.Shelf.faults _ _ _ _ _ (λ e. absurd cc) read)
    (record { kept = λ e. refl; counted = λ e. absurd cc; never_falls = omega arith })
