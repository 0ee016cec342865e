use Rattle.std.proofs.Common.{[], ◌∷◌}
use Rattle.certify_recheck.specs.Due.{part}
use Rattle.certify_recheck.specs.Spots.{IsFault, IsPart, IsRefusal, Passes}
use Rattle.certify_recheck.proofs.Parts.{err_then, ok_then, part_passed, part_refutes, refusal_fault}
use Rattle.certify_recheck.proofs.checking.recheck.Goals as goal

pub returns-clause-ok : goal.returns-clause-ok
returns-clause-ok g c =
    let p = g.C.Clauses.problem c.args.c.now in
    ok_then c.pass.result (Passes c.args.text.now c.args.from (part p c.args.duty ∷ [])) (IsPart c.args.text.now c.args.from p c.args.duty) c.pass.ensures.ok
    (part_passed c.args.text.now c.args.from p c.args.duty)

pub returns-clause-refutes : goal.returns-clause-refutes
returns-clause-refutes g c =
    let p = g.C.Clauses.problem c.args.c.now in
    ok_then c.pass.result (Passes c.args.text.now c.args.from (part p c.args.duty ∷ [])) _ c.pass.ensures.ok
    (λ to h. part_refutes c.args.text.now c.args.from p c.args.duty to (part_passed c.args.text.now c.args.from p c.args.duty to h))

pub returns-clause-fault : goal.returns-clause-fault
returns-clause-fault g c =
    let p = g.C.Clauses.problem c.args.c.now in
    err_then c.pass.result (IsRefusal c.args.text.now c.args.from (part p c.args.duty ∷ [])) (IsFault c.args.text.now c.args.from p c.args.duty) c.pass.ensures.bad
    (refusal_fault c.args.text.now c.args.from p c.args.duty)
