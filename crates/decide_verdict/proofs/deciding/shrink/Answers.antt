use Rattle.std.proofs.Common.{subst}
use Rattle.form_formula.specs.Nodes.{formula_of}
use Rattle.decide_verdict.specs.declared.verdict.Verdict.{Verdict}
use Rattle.decide_verdict.specs.Verdicts.{IsVerdictOn}
use Rattle.decide_verdict.proofs.Judged.{found_too}
use Rattle.decide_verdict.proofs.deciding.shrink.Goals as goal

pub returns-in_ok-structure-in-Found : goal.returns-in_ok-structure-in-Found
returns-in_ok-structure-in-Found c = λ f same h.
    let g = c.args.signature.now in
    let n = formula_of c.args.arena.now c.args.id in
    let P : Verdict → Type 0 = λ v. IsVerdictOn g f n v in
    found_too g f n c.requires.over c.requires.normal same c.in-Found.structure c.in_ok-structure-in-Found.structure c.in-Found.picks c.in_ok-structure-in-Found.picks
    (subst P c.in-Found.is h) c.in_ok-structure-in-Found.ensures
