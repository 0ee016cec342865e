use Rattle.std.proofs.Common.{refl, arith}
use Rattle.app_flow.proofs.OutsideLemmas.{read-as}
use Rattle.app_files.specs.Words.{names_of}
use Rattle.app_certify.specs.Proved.{Judged, NoMemory, Refused, Unread}
use Rattle.app_certify.proofs.ProveLaws.{checked_of, less_silent, prove_run}
use Rattle.app_certify.proofs.prove.run_prove.Goals as goal

pub put_checked-requires : goal.put_checked-requires
put_checked-requires g c = let (calls, checks, read) = c.in-Ok.ensures in checked_of _ _ calls c.in-Ok.checked checks

pub returns-in-Ok : goal.returns-in-Ok
returns-in-Ok g c =
    let (calls, checks, read) = c.in-Ok.ensures in
    prove_run g.F.Shelf.told g.F.Shelf.calls g.F.Shelf.faults g.W.Sink.told g.W.Sink.faults (names_of c.args.spec.now c.args.script.now) _ _ _ _ _ calls
    (Judged c.in-Ok.checked checks c.put_checked.ensures.put)
    (read-as g.F.Shelf.told g.F.Shelf.calls g.F.Shelf.faults _ _ _ _ _ (λ e. absurd (c.put_checked.ensures.not_read e)) read)
    c.put_checked.ensures.out

pub returns-in-Err-Refused : goal.returns-in-Err-Refused
returns-in-Err-Refused g c =
    let (calls, checks, read) = rw c.in-Err-Refused.field-0-is at c.in-Err-Refused.ensures in
    prove_run g.F.Shelf.told g.F.Shelf.calls g.F.Shelf.faults g.W.Sink.told g.W.Sink.faults (names_of c.args.spec.now c.args.script.now) _ _ _ _ _ calls
    (Refused c.in-Err-Refused.refusal checks c.put_answer.ensures.put)
    (read-as g.F.Shelf.told g.F.Shelf.calls g.F.Shelf.faults _ _ _ _ _ (λ e. absurd (c.put_answer.ensures.not_read e)) read)
    (less_silent g.W.Sink.faults _ _ _ c.put_answer.ensures.out)

pub returns-in-Err-ReadFault : goal.returns-in-Err-ReadFault
returns-in-Err-ReadFault g c =
    let (calls, checks, read) = rw c.in-Err-ReadFault.field-0-is at c.in-Err-ReadFault.ensures in
    prove_run g.F.Shelf.told g.F.Shelf.calls g.F.Shelf.faults g.W.Sink.told g.W.Sink.faults (names_of c.args.spec.now c.args.script.now) _ _ _ _ _ calls (Unread refl checks)
    (read-as g.F.Shelf.told g.F.Shelf.calls g.F.Shelf.faults _ _ _ _ _ (λ e. refl) read)
    (record { kept = λ e. refl; counted = λ e. absurd cc; never_falls = omega arith })

pub returns-in-Err-OutOfMemory : goal.returns-in-Err-OutOfMemory
returns-in-Err-OutOfMemory g c =
    let (calls, checks, read) = rw c.in-Err-OutOfMemory.field-0-is at c.in-Err-OutOfMemory.ensures in
    prove_run g.F.Shelf.told g.F.Shelf.calls g.F.Shelf.faults g.W.Sink.told g.W.Sink.faults (names_of c.args.spec.now c.args.script.now) _ _ _ _ _ calls (NoMemory refl checks)
    (read-as g.F.Shelf.told g.F.Shelf.calls g.F.Shelf.faults _ _ _ _ _ (λ e. absurd cc) read)
    (record { kept = λ e. refl; counted = λ e. absurd cc; never_falls = omega arith })
