-- What the obligations of a script are.
use Rattle.std.specs.Prelude.{◌≡◌, ◌↔◌, ℕ, Contains, MatchOption}
use Rattle.type_schema.specs.declared.rights.Right.TheVariants.{Read}
use Rattle.type_schema.specs.Trees.{Init}
use Rattle.type_schema.specs.Schema.{FieldInfo}
use Rattle.type_schema.specs.Uses.{Use}
use Rattle.type_schema.specs.Script.{Script, IsScript}
use Rattle.duty_meaning.specs.declared.duty.Duty.{Duty}
use Rattle.duty_meaning.specs.Duties.{obligations_of}
use Rattle.duty_meaning.specs.Gains.{IsGainDuty}
use Rattle.duty_meaning.specs.Flows.{IsFlowDuty}

-- the obligation is that the use of this number does not leak to those who may read the added field
pub record IsUseDuty (t : Script) (duty : Duty) (spot : ℕ) : Type 0 where
  pub right : duty.right ≡ Read
  pub model : ℕ
  pub field : FieldInfo
  pub init : Init
  pub at : Use
  pub flow : IsFlowDuty t duty spot model field init at

abbrev pub IsObligation : Script → Duty → Type 0
IsObligation t duty = MatchOption duty.spot (IsGainDuty t duty) (IsUseDuty t duty)

-- The list has just the obligations: for each command and each kind at it, that a right which the command updates is no gain, and that no
-- use of the initialiser of a field which it adds leaks.
abbrev pub ObligationsAreListed : Type 0
ObligationsAreListed = (t : Script) → IsScript t → (duty : Duty) → Contains (obligations_of t) duty ↔ IsObligation t duty
