-- A certificate that was written, and why none was.
use Rattle.std.specs.Prelude.{◌≡◌, ◌⊎◌, ℕ, List, Option, Some, slice_get}
use Rattle.app_flow.specs.Faults.{Rose}
use Rattle.app_flow.specs.Told.{Appends, AppendsFront}
use Rattle.type_schema.specs.Script.{Script}
use Rattle.form_formula.specs.declared.structure.Signature.{Signature}
use Rattle.duty_meaning.specs.Duties.{obligations_of}
use Rattle.duty_meaning.specs.Over.{IsSignatureOf}
use Rattle.duty_meaning.specs.declared.duty.Duty.{Duty}
use Rattle.certify_scripts.specs.Certificates.{IsCertificate}
use Rattle.certify_proving.specs.Begun.{IsBegun}
use Rattle.certify_proving.specs.Parts.{IsOpen}
use Rattle.certify_proving.specs.declared.fault.ProveErr.{ProveErr}
use Rattle.certify_proving.specs.declared.fault.ProveErr.TheVariants.{NotRefuted, WriteFault, OutOfMemory}

module _ (t : Script) (g : Signature) where
  -- a certificate of the script was appended
  pub record IsProvedBy (old new : Option (List ℕ)) : Type 0 where
    pub text : List ℕ
    pub certificate : IsCertificate t g text
    pub appended : Appends old new text

  -- a first line and the parts of so many obligations were
  pub record IsLeftBy (count : ℕ) (old new : Option (List ℕ)) : Type 0 where
    pub text : List ℕ
    pub begun : IsBegun t g count text
    pub appended : Appends old new text

  -- a front of these was, or a front of a certificate
  pub record IsCutBy (old new : Option (List ℕ)) : Type 0 where
    pub text : List ℕ
    pub of : ((count : ℕ) × IsBegun t g count text) ⊎ IsCertificate t g text
    pub front : AppendsFront old new text

  -- those before this obligation were, and some assignment is lawful for its clauses
  pub record IsOpenBy (duty : Duty) (old new : Option (List ℕ)) : Type 0 where
    pub count : ℕ
    pub at : slice_get (obligations_of t) count ≡ Some duty
    pub open_ : IsOpen t g duty
    pub left : IsLeftBy count old new

  abbrev pub IsFaultBy : {O : Type 0} (told : O → Option (List ℕ)) (faults : O → ℕ) (old new : O) → ProveErr → Type 0
  IsFaultBy told faults old new (NotRefuted duty) = IsOpenBy duty (told old) (told new)
  IsFaultBy told faults old new WriteFault = Rose (faults old) (faults new) × IsCutBy (told old) (told new)
  IsFaultBy told faults old new OutOfMemory = (count : ℕ) × IsLeftBy count (told old) (told new)

-- a signature of the schema of the script's start databases
pub record WithSignature (t : Script) (P : Signature → Type 0) : Type 0 where
  pub signature : Signature
  pub signature_of : IsSignatureOf t.start signature
  pub so : P signature

module _ (t : Script) where
  -- a certificate of the script was appended
  abbrev pub IsProved : (old new : Option (List ℕ)) → Type 0
  IsProved old new = WithSignature t (λ g. IsProvedBy t g old new)

  -- why none was: some assignment is lawful for the clauses of an obligation; or a fault was counted, and a front of a certificate was appended, as far as
  -- it was made; or nothing was, or some parts were
  abbrev pub IsFault : {O : Type 0} (told : O → Option (List ℕ)) (faults : O → ℕ) (old new : O) → ProveErr → Type 0
  IsFault told faults old new (NotRefuted duty) = WithSignature t (λ g. IsOpenBy t g duty (told old) (told new))
  IsFault told faults old new WriteFault = Rose (faults old) (faults new) × WithSignature t (λ g. IsCutBy t g (told old) (told new))
  IsFault told faults old new OutOfMemory = (new ≡ old) ⊎ WithSignature t (λ g. (count : ℕ) × IsLeftBy t g count (told old) (told new))
