-- What the outcomes of a script say of it.
use Rattle.std.specs.Prelude.{ℕ, Contains}
use Rattle.type_schema.specs.Script.{Script, IsScript}
use Rattle.data_meaning.specs.Secure.{IsSecure, IsStepSecure}
use Rattle.form_formula.specs.declared.structure.Signature.{Signature}
use Rattle.duty_meaning.specs.declared.duty.Duty.{Duty}
use Rattle.duty_meaning.specs.Duties.{obligations_of}
use Rattle.duty_meaning.specs.Over.{IsSignatureOf}
use Rattle.check_witness.specs.Witness.{Witness}
use Rattle.check_scripts.specs.FailsBy.{FailsBy}
use Rattle.check_scripts.specs.Outcomes.{Outcome, accepted, leak, IsCleared, HasStrata, IsWithinLimits, IsOutcome}

-- An obligation that is cleared fails by no witness.
abbrev pub ClearedDoNotFail : Type 0
ClearedDoNotFail =
    (t : Script) → IsScript t → (g : Signature) → IsSignatureOf t.start g → (duty : Duty) → Contains (obligations_of t) duty
    → IsCleared t g duty → (w : Witness) → FailsBy t duty w → ⊥

-- An accepted script is secure, at each step and as a whole.
abbrev pub AcceptedAreSecure : Type 0
AcceptedAreSecure = (t : Script) → IsScript t → (n : ℕ) → IsOutcome t (accepted n) → IsStepSecure t × IsSecure t

-- A script that leaks is not secure at each step.
abbrev pub LeaksAreReal : Type 0
LeaksAreReal = (t : Script) (w : Witness) → IsOutcome t (leak w) → IsStepSecure t → ⊥

-- the formula of each obligation is stratified and within the limits
abbrev pub IsDecidable : Script → Type 0
IsDecidable t =
    (g : Signature) → IsSignatureOf t.start g → (duty : Duty) → Contains (obligations_of t) duty
    → HasStrata t g duty × IsWithinLimits t g duty

-- What a script comes to whose obligations are all decidable: it is accepted or leaks.
pub data IsSettled : Outcome → Type 0 where
  Accepted : (n : ℕ) → IsSettled (accepted n)
  Leak : (w : Witness) → IsSettled (leak w)

abbrev pub DecidableAreSettled : Type 0
DecidableAreSettled = (t : Script) → IsDecidable t → (outcome : Outcome) → IsOutcome t outcome → IsSettled outcome
