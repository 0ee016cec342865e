-- Scripts whose obligations have clauses.
use Rattle.std.specs.Prelude.{Contains}
use Rattle.type_schema.specs.Script.{Script}
use Rattle.form_formula.specs.NormalForm.{normal_form}
use Rattle.form_formula.specs.declared.structure.Signature.{Signature}
use Rattle.form_strata.specs.SortGraph.{IsStratified}
use Rattle.certify_problem.specs.Grounded.{IsOverLimit, IsShallowOverLimit}
use Rattle.duty_meaning.specs.Duties.{formula_of, obligations_of}
use Rattle.duty_meaning.specs.Over.{IsSignatureOf}
use Rattle.duty_meaning.specs.declared.duty.Duty.{Duty}

-- a stratified formula is within the limits, and of another one the shallow terms are
pub record IsWithinLimits (t : Script) (g : Signature) (duty : Duty) : Type 0 where
  pub within : IsStratified g (normal_form (formula_of t duty)) → IsOverLimit g (formula_of t duty) (normal_form (formula_of t duty)) → ⊥
  pub shallow_within : (IsStratified g (normal_form (formula_of t duty)) → ⊥) → IsShallowOverLimit g (formula_of t duty) (normal_form (formula_of t duty)) → ⊥

-- and so is the formula of each obligation
abbrev pub AreWithinLimits : Script → Type 0
AreWithinLimits t = (g : Signature) → IsSignatureOf t.start g → (duty : Duty) → Contains (obligations_of t) duty → IsWithinLimits t g duty
