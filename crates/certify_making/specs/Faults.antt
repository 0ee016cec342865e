-- A part that was written, and why one was not.
use Rattle.std.specs.Prelude.{◌≡◌, ℕ, List, Option}
use Rattle.app_flow.specs.Faults.{Rose}
use Rattle.app_flow.specs.Told.{Appends, AppendsFront}
use Rattle.certify_clauses.specs.Problem.{Problem}
use Rattle.certify_making.specs.Open.{HasAssignment}
use Rattle.certify_making.specs.Texts.{IsPartText}
use Rattle.certify_making.specs.declared.fault.CertErr.{CertErr}
use Rattle.certify_making.specs.declared.fault.CertErr.TheVariants.{NotRefuted, WriteFault, OutOfMemory}

-- a part was appended
pub record IsWrittenPart (old new : Option (List ℕ)) (c : Problem) (duty : ℕ) : Type 0 where
  pub text : List ℕ
  pub is_part : IsPartText c duty text
  pub appended : Appends old new text

-- some assignment is lawful, and nothing was appended; or a fault was counted, and a front of a part was; or nothing was
abbrev pub IsFault : {O : Type 0} (told : O → Option (List ℕ)) (faults : O → ℕ) (old new : O) (c : Problem) (duty : ℕ) → CertErr → Type 0
IsFault told faults old new c duty NotRefuted = HasAssignment c × (new ≡ old)
IsFault told faults old new c duty WriteFault = Rose (faults old) (faults new) × ((text : List ℕ) × IsPartText c duty text × AppendsFront (told old) (told new) text)
IsFault told faults old new c duty OutOfMemory = new ≡ old
