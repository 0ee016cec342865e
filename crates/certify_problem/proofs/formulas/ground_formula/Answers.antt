use Rattle.std.proofs.Common.{sym, subst, true, []}
use Rattle.form_formula.specs.Nodes.{formula_of}
use Rattle.form_formula.specs.Over.{IsOver}
use Rattle.form_formula.specs.Trees.{Formula}
use Rattle.certify_problem.proofs.FormulaLaws.{over_form}
use Rattle.certify_problem.proofs.formulas.ground_formula.Goals as goal

pub ground_form-requires-clause-over : goal.ground_form-requires-clause-over
ground_form-requires-clause-over c =
    let P : Formula → Type 0 = λ f. IsOver c.args.signature.now [] f in
    subst P (sym c.in_ok-form.ensures.form.1) (over_form c.args.signature.now true [] (formula_of c.args.arena.now c.args.id) c.requires.over)
