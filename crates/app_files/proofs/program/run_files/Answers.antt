use Rattle.std.proofs.Common.{◌≡◌, refl, ap, sym, ◌∙◌, arith}
use Rattle.std.specs.Prelude.{Err}
use Rattle.app_flow.proofs.OutsideLemmas.{read-as}
use Rattle.app_files.specs.Ends.{Answered, Unread, NoMemory}
use Rattle.app_files.specs.declared.answer.Answer.TheVariants.{Refused}
use Rattle.app_files.specs.declared.status.Status.TheVariants as status
use Rattle.app_files.specs.declared.stop.Stop.TheVariants as stop
use Rattle.app_files.proofs.Headline.{passed-on, run-of}
use Rattle.app_files.proofs.program.run_files.Goals as goal

pub returns-in-Ok : goal.returns-in-Ok
returns-in-Ok g c =
    let (calls, runs, read) = c.in-Ok.ensures.answered in
    run-of g.F.Shelf.told g.F.Shelf.calls g.F.Shelf.faults g.W.Sink.told g.W.Sink.faults c.args.words.now _ _ _ _ _ calls
    (Answered c.in-Ok.answer (passed-on _ _ calls c.in-Ok.answer runs) c.put_answer.ensures.put)
    (read-as g.F.Shelf.told g.F.Shelf.calls g.F.Shelf.faults _ _ _ _ _ (λ e. absurd (c.put_answer.ensures.not_read e)) read)
    c.put_answer.ensures.out (λ none. c.put_answer.ensures.not_read)

pub returns-in-Err-Refused : goal.returns-in-Err-Refused
returns-in-Err-Refused g c =
    let (calls, runs, read) = rw c.in-Err-Refused.field-0-is at c.in-Err-Refused.ensures.answered in
    run-of g.F.Shelf.told g.F.Shelf.calls g.F.Shelf.faults g.W.Sink.told g.W.Sink.faults c.args.words.now _ _ _ _ _ calls
    (Answered (Refused c.in-Err-Refused.refusal) runs c.put_answer-in-Err-Refused.ensures.put)
    (read-as g.F.Shelf.told g.F.Shelf.calls g.F.Shelf.faults _ _ _ _ _ (λ e. absurd (c.put_answer-in-Err-Refused.ensures.not_read e)) read)
    c.put_answer-in-Err-Refused.ensures.out (λ none. c.put_answer-in-Err-Refused.ensures.not_read)

pub returns-in-Err-ReadFault : goal.returns-in-Err-ReadFault
returns-in-Err-ReadFault g c =
    let (calls, runs, read) = rw c.in-Err-ReadFault.field-0-is at c.in-Err-ReadFault.ensures.answered in
    run-of g.F.Shelf.told g.F.Shelf.calls g.F.Shelf.faults g.W.Sink.told g.W.Sink.faults c.args.words.now _ _ _ _ _ calls (Unread refl runs)
    (read-as g.F.Shelf.told g.F.Shelf.calls g.F.Shelf.faults _ _ _ _ _ (λ e. refl) read)
    (record { kept = λ e. refl; counted = λ e. absurd cc; never_falls = omega arith })
    (λ none e. c.in-Err-ReadFault.ensures.no_fault none (ap (λ s. Err s) c.in-Err-ReadFault.field-0-is))

pub returns-in-Err-OutOfMemory : goal.returns-in-Err-OutOfMemory
returns-in-Err-OutOfMemory g c =
    let (calls, runs, read) = rw c.in-Err-OutOfMemory.field-0-is at c.in-Err-OutOfMemory.ensures.answered in
    run-of g.F.Shelf.told g.F.Shelf.calls g.F.Shelf.faults g.W.Sink.told g.W.Sink.faults c.args.words.now _ _ _ _ _ calls (NoMemory refl runs)
    (read-as g.F.Shelf.told g.F.Shelf.calls g.F.Shelf.faults _ _ _ _ _ (λ e. absurd cc) read)
    (record { kept = λ e. refl; counted = λ e. absurd cc; never_falls = omega arith })
    (λ none e. cc)
