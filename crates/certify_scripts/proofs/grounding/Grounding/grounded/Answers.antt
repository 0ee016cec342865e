use Rattle.std.proofs.Common.{[], subst, sym}
use Rattle.type_schema.specs.SchemaViews.{script_of}
use Rattle.form_formula.specs.NormalForm.{normal_form}
use Rattle.form_formula.specs.Over.{IsOver}
use Rattle.form_formula.specs.Trees.{Formula}
use Rattle.duty_meaning.proofs.Speaking.{over_and_closed}
use Rattle.certify_problem.specs.Grounded.{IsGrounded}
use Rattle.certify_scripts.proofs.PartLaws.{ok_too}
use Rattle.certify_scripts.proofs.grounding.Grounding.grounded.Goals as goal

pub ground_formula-requires-clause-over : goal.ground_formula-requires-clause-over
ground_formula-requires-clause-over g c =
    let s = c.args.self.now in
    subst (λ (f : Formula). IsOver s.signature.now [] f) (sym c.in_ok-id.ensures.formula.1)
    (over_and_closed (script_of s.script.now) c.requires.script s.signature.now c.requires.signature c.args.duty c.requires.listed).0

pub returns : goal.returns
returns g c =
    let s = c.args.self.now in
    ok_too c.ground_formula.result _ _
    (λ grounded h. subst (λ (f : Formula). IsGrounded s.signature.now f (normal_form f) grounded) c.in_ok-id.ensures.formula.1 h)
    c.ground_formula.ensures.grounded
