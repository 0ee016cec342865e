-- Formulas that are safe.
use Rattle.std.specs.Prelude.{ℕ, List}
use Rattle.form_formula.specs.declared.node.Node.{Node}
use Rattle.form_formula.specs.declared.structure.Signature.{Signature}
use Rattle.form_formula.specs.Nodes.{formula_of}
use Rattle.form_formula.specs.NormalForm.{normal_form}
use Rattle.decide_verdict.specs.Verdicts.{IsSafe}

-- the formula of this number is safe, as the verdict says
unfoldable pub IsSafeIn : Signature → List Node → ℕ → Type 0
IsSafeIn g nodes id = IsSafe g (formula_of nodes id) (normal_form (formula_of nodes id))
