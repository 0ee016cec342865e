use Rattle.std.proofs.Common.{subst}
use Rattle.ground_terms.specs.declared.ground_err.GroundErr.{GroundErr}
use Rattle.ground_terms.specs.Limited.{IsRefusal}
use Rattle.certify_problem.proofs.FormulaLaws.{too_large}
use Rattle.certify_problem.proofs.formulas.refused.Goals as goal

pub returns-in-TooLarge : goal.returns-in-TooLarge
returns-in-TooLarge c = λ g f n stratified h.
    let P : GroundErr → Type 0 = λ e. IsRefusal g n e in
    too_large g f n c.in-TooLarge.terms c.in-TooLarge.nodes stratified (subst P c.in-TooLarge.is h)
