use Rattle.form_formula.specs.Nodes.{formula_of}
use Rattle.form_formula.specs.Trees.{Formula}
use Rattle.form_formula.specs.Truth.{IsEquallyTrue}
use Rattle.decide_verdict.specs.declared.verdict.Verdict.{Verdict}
use Rattle.decide_verdict.specs.Verdicts.{IsVerdictOn}
use Rattle.decide_verdict.proofs.Judged.{ok_too}
use Rattle.decide_verdict.proofs.deciding.decide_form.Goals as goal

pub returns : goal.returns
returns c =
    let g = c.args.signature.now in
    let n = formula_of c.args.arena.now c.args.id in
    let P : Verdict → Type 0 = λ less. (f : Formula) → IsEquallyTrue n f → IsVerdictOn g f n c.in_ok-verdict.verdict → IsVerdictOn g f n less in
    let Q : Verdict → Type 0 = λ less. (f : Formula) → IsEquallyTrue n f → IsVerdictOn g f n less in
    ok_too c.shrink.result P Q (λ less k f same. k f same (c.in_ok-verdict.ensures f same)) c.shrink.ensures
