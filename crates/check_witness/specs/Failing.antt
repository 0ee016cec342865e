-- A structure that satisfies the formula of an obligation stands for a start database on which the obligation fails.
use Rattle.std.specs.Prelude.{◌≡◌, ℕ, true, []}
use Rattle.type_schema.specs.Trees.{Init}
use Rattle.type_schema.specs.Schema.{FieldInfo}
use Rattle.type_schema.specs.Uses.{Use}
use Rattle.type_schema.specs.Script.{Script, IsScript}
use Rattle.form_formula.specs.declared.structure.Signature.{Signature}
use Rattle.form_formula.specs.declared.structure.Structure.{Structure}
use Rattle.form_formula.specs.Truth.{truth}
use Rattle.form_terms.specs.Structures.{IsStructure}
use Rattle.duty_meaning.specs.declared.duty.Duty.{Duty}
use Rattle.duty_meaning.specs.Over.{IsSignatureOf}
use Rattle.duty_meaning.specs.Duties.{gain_formula_of, flow_formula_of}
use Rattle.duty_meaning.specs.Gains.{IsGainDuty, GainsSomebody}
use Rattle.duty_meaning.specs.Flows.{IsFlowDuty, LeaksToSomebody}
use Rattle.check_witness.specs.Built.{built}
use Rattle.check_witness.specs.Back.{HasIds}

-- a right is gained, or an added field leaks, on the database of the structure
pub record FailsOnBuilt (t : Script) (st : Structure) : Type 0 where
  pub gains : (duty : Duty) → IsGainDuty t duty → truth st [] (gain_formula_of t duty) ≡ true → GainsSomebody t duty (built t.start st)
  pub flows : (duty : Duty) (spot m : ℕ) (f : FieldInfo) (init : Init) (at : Use) → IsFlowDuty t duty spot m f init at
      → truth st [] (flow_formula_of t duty spot) ≡ true → LeaksToSomebody t duty spot init at (built t.start st)

abbrev pub SatisfiedObligationsFail : Type 0
SatisfiedObligationsFail =
    (t : Script) → IsScript t → (g : Signature) → IsSignatureOf t.start g → (st : Structure) → IsStructure g st → HasIds st → FailsOnBuilt t st
