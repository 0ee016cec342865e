use Rattle.std.proofs.Common.{subst}
use Rattle.type_schema.specs.SchemaViews.{script_of}
use Rattle.form_formula.specs.NormalForm.{normal_form}
use Rattle.duty_meaning.specs.Duties.{formula_of}
use Rattle.certify_problem.specs.Grounded.{IsGrounded}
use Rattle.certify_clauses.specs.InMemory.{problem_in}
use Rattle.certify_problem.specs.declared.grounded.Grounded.{Grounded}
use Rattle.certify_scripts.proofs.PartLaws.{ok_too, part_of}
use Rattle.certify_scripts.proofs.grounding.Grounding.part.Goals as goal

pub returns-in-Clauses : goal.returns-in-Clauses
returns-in-Clauses g c =
    let s = c.args.self.now in
    let t = script_of s.script.now in
    let f = formula_of t c.args.duty in
    let P : Grounded → Type 0 = λ grounded. IsGrounded s.signature.now f (normal_form f) grounded in
    let is = subst P c.in-Clauses.is c.in_ok-c.ensures in
    ok_too c.recheck_over.result _ _ (λ found h. part_of t s.signature.now c.args.text.now c.args.duty c.args.number c.args.from (problem_in c.in-Clauses.c) found is h) c.recheck_over.ensures
