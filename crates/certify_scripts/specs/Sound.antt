-- What a certificate shows.
use Rattle.std.specs.Prelude.{ℕ, List, ⊤}
use Rattle.type_schema.specs.Script.{IsScript, Script}
use Rattle.data_meaning.specs.Secure.{IsSecure, IsStepSecure}
use Rattle.form_formula.specs.declared.structure.Signature.{Signature}
use Rattle.duty_meaning.specs.Failing.{NoneFails}
use Rattle.duty_meaning.specs.Over.{IsSignatureOf}
use Rattle.certify_scripts.specs.Certificates.{IsCertificate}
use Rattle.certify_scripts.specs.declared.rechecked.Rechecked.{Rechecked}
use Rattle.certify_scripts.specs.declared.rechecked.Rechecked.TheVariants.{Certified, BadLine, Cyclic, TooLarge}

-- no obligation fails on any start database; at no command does anybody gain a right that it updates, and no added field leaks; and the script is secure
-- as a whole
pub record IsShown (t : Script) : Type 0 where
  pub none_fails : NoneFails t
  pub step_secure : IsStepSecure t
  pub secure : IsSecure t

-- Whatever the bytes, all this is so of a script that has a certificate.
abbrev pub CertifiedAreSecure : Type 0
CertifiedAreSecure =
    (t : Script) → IsScript t → (g : Signature) → IsSignatureOf t.start g → (text : List ℕ) → IsCertificate t g text → IsShown t

-- what an answer of the check shows
abbrev pub Shows : Script → Rechecked → Type 0
Shows t (Certified n) = IsShown t
Shows t (BadLine line) = ⊤
Shows t (Cyclic duty cycle) = ⊤
Shows t (TooLarge duty terms nodes) = ⊤
