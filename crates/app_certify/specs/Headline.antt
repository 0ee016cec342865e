-- What the end of a command on certificates says of the script in the files.
use Rattle.std.specs.Prelude.{◌≡◌, ◌⊎◌, ◌≤◌, ℕ, List, Option, Some, IfSome, Ok, length}
use Rattle.app_flow.specs.Files.{Files}
use Rattle.app_flow.specs.Told.{Appends}
use Rattle.type_schema.specs.Script.{Script}
use Rattle.check_scripts.specs.Outcomes.{IsOutcome, Outcome}
use Rattle.check_scripts.specs.Sound.{IsDecidable}
use Rattle.duty_meaning.specs.Duties.{obligations_of}
use Rattle.duty_meaning.specs.Over.{IsSignatureOf}
use Rattle.form_formula.specs.declared.structure.Signature.{Signature}
use Rattle.certify_proving.specs.Proved.{IsProved}
use Rattle.certify_scripts.specs.Certificates.{IsCertificate}
use Rattle.certify_scripts.specs.Rechecked.{IsRechecked}
use Rattle.certify_scripts.specs.Sound.{IsShown}
use Rattle.certify_scripts.specs.declared.rechecked.Rechecked.TheVariants.{BadLine}
use Rattle.app_files.specs.Answer.{Asks, both_files, outcome_status, outcome_text}
use Rattle.app_files.specs.Headline.{Headline}
use Rattle.app_files.specs.Loads.{FetchesWithin}
use Rattle.app_files.specs.Words.{Names}
use Rattle.app_files.specs.declared.status.Status.{Status}
use Rattle.app_files.specs.declared.status.Status.TheVariants.{Done, Undecided, TooLarge, ReadFault, WriteFault, OutOfMemory, BadCertificate}
use Rattle.app_certify.specs.Report.{bad_line_text, certified_text}
use Rattle.app_certify.specs.declared.limits.TheConstants.{MOST_CERTIFICATE_BYTES}

-- `prove SPEC SCRIPT`. It ends as `check SPEC SCRIPT` does, with all that this says; and where the script is accepted, a certificate of it is put out: a first
-- line, a lawful part for each obligation over clauses of its formula, and a last line.
pub record ProveHeadline (told : Option Files) (names : Names) (before after : Option (List ℕ)) (status : Status) : Type 0 where
  pub checks : Headline told names before after status
  pub proved : status ≡ Done → (t : Script) × Asks told names (both_files names) (Ok t) × IsProved t before after

-- The text in the file is a certificate of the script, by which nothing that it is about fails; and the line on it is put out.
pub record IsCertified (told : Option Files) (names : Names) (cert : List ℕ) (before after : Option (List ℕ)) : Type 0 where
  pub script : Script
  pub asks : Asks told names (both_files names) (Ok script)
  pub text : List ℕ
  pub fetches : FetchesWithin MOST_CERTIFICATE_BYTES told cert (Ok text)
  pub signature : Signature
  pub signature_of : IsSignatureOf script.start signature
  pub certificate : IsCertificate script signature text
  pub shown : IsShown script
  pub put : Appends before after (certified_text (length (obligations_of script)))

-- The text in the file is none: this line is the first that is not the next one, and the line on it is put out.
pub record IsRefusedAt (told : Option Files) (names : Names) (cert : List ℕ) (before after : Option (List ℕ)) : Type 0 where
  pub script : Script
  pub asks : Asks told names (both_files names) (Ok script)
  pub text : List ℕ
  pub fetches : FetchesWithin MOST_CERTIFICATE_BYTES told cert (Ok text)
  pub line : ℕ
  pub bad : IsRechecked script text (BadLine line)
  pub put : Appends before after (bad_line_text cert line)

-- The lines so far are right, and the next obligation has no clauses: this is an outcome of the check of the script, and the report on it is put out.
pub record IsUnsettledBy (told : Option Files) (names : Names) (before after : Option (List ℕ)) (status : Status) : Type 0 where
  pub script : Script
  pub asks : Asks told names (both_files names) (Ok script)
  pub outcome : Outcome
  pub is : IsOutcome script outcome
  pub status_is : status ≡ outcome_status outcome
  pub put : Appends before after (outcome_text script outcome)

-- The text is a certificate of the script, or it has a first bad line; or a fault or want of memory ended the run.
pub data IsRecheckedBy (t : Script) (text : List ℕ) (status : Status) : Type 0 where
  Certifies : status ≡ Done → (g : Signature) → IsSignatureOf t.start g → IsCertificate t g text → IsRecheckedBy t text status
  Refuses : status ≡ BadCertificate → (line : ℕ) → IsRechecked t text (BadLine line) → IsRecheckedBy t text status
  Faults : (status ≡ ReadFault) ⊎ (status ≡ WriteFault) ⊎ (status ≡ OutOfMemory) → IsRecheckedBy t text status

-- `recheck SPEC SCRIPT CERT`. Whatever bytes the certificate holds: where it is passed, no obligation of the script fails on any start database, of any size,
-- and the script is secure, at each of its commands and as a whole. Where it is refused, the line is bad. Where an obligation has no clauses, what is put out is
-- an outcome that `check` may have too. Where each obligation can be decided, it is passed or refused.
pub record RecheckHeadline (told : Option Files) (names : Names) (cert : List ℕ) (before after : Option (List ℕ)) (status : Status) : Type 0 where
  pub certified : status ≡ Done → IsCertified told names cert before after
  pub refused : status ≡ BadCertificate → IsRefusedAt told names cert before after
  pub unsettled : (status ≡ Undecided) ⊎ (status ≡ TooLarge) → IsUnsettledBy told names before after status
  pub decided : IfSome told (λ files. (t : Script) (text : List ℕ) → Asks (Some files) names (both_files names) (Ok t) → files cert ≡ Some text
      → length text ≤ MOST_CERTIFICATE_BYTES → IsDecidable t → IsRecheckedBy t text status)
