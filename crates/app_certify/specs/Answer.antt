-- What `recheck` may answer, and what it then prints.
use Rattle.std.specs.Prelude.{◌≡◌, ℕ, List, Option, Result, Ok, Err}
use Rattle.app_flow.specs.Files.{Files}
use Rattle.type_schema.specs.Script.{IsScript, Script}
use Rattle.type_schema.specs.SchemaViews.{script_of}
use Rattle.check_report.specs.Reports.{too_large_text}
use Rattle.app_files.specs.Answer.{Asks, refusal_status, refusal_text}
use Rattle.app_files.specs.Loads.{FetchesWithin}
use Rattle.app_files.specs.Stages.{Calling, Judges, Next, Part, Stage, Then}
use Rattle.app_files.specs.Words.{Names}
use Rattle.app_files.specs.declared.status.Status.{Status}
use Rattle.app_files.specs.declared.status.Status.TheVariants as status
use Rattle.app_files.specs.declared.stop.Stop.{Stop}
use Rattle.app_files.specs.declared.stop.Stop.TheVariants.{Refused}
use Rattle.certify_scripts.specs.Rechecked.{IsRechecked}
use Rattle.certify_scripts.specs.Sound.{Shows}
use Rattle.certify_scripts.specs.declared.rechecked.Rechecked.{Rechecked}
use Rattle.certify_scripts.specs.declared.rechecked.Rechecked.TheVariants.{Certified, BadLine, Cyclic, TooLarge}
use Rattle.app_certify.specs.Report.{bad_line_text, certified_text, cyclic_text}
use Rattle.app_certify.specs.declared.answer.CertifyAnswer.{CertifyAnswer}
use Rattle.app_certify.specs.declared.answer.CertifyAnswer.TheVariants as answer
use Rattle.app_certify.specs.declared.answer.CheckedCertificate.{CheckedCertificate}
use Rattle.app_certify.specs.declared.limits.TheConstants.{MOST_CERTIFICATE_BYTES}

-- ---- the stages, in their order

-- The text is checked as a certificate of the script, and this is found; it shows what the finding says.
pub record IsCheckedAs (t : Script) (cert text : List ℕ) (checked : CheckedCertificate) : Type 0 where
  pub script : script_of checked.script ≡ t
  pub typed : IsScript t
  pub name : checked.cert ≡ cert
  pub found : IsRechecked t text checked.found
  pub shows : Shows t checked.found

abbrev pub RechecksText : Script → (cert text : List ℕ) → Stage CheckedCertificate
RechecksText t cert text = Judges (λ r. ⊥) (IsCheckedAs t cert text)

-- The file of that name is fetched, and checked as a certificate of the script.
abbrev pub RechecksFile : Option Files → List ℕ → Script → Stage CheckedCertificate
RechecksFile told cert t = Then (FetchesWithin MOST_CERTIFICATE_BYTES told cert) (RechecksText t cert)

-- The files ask for a script, and only then the certificate is fetched and checked.
abbrev pub Rechecks : Option Files → Names → List ℕ → Part (List ℕ) CheckedCertificate
Rechecks told names cert = Next (Asks told names) (λ t. Calling cert (RechecksFile told cert t))

-- ---- the answers

-- how the stages end with an answer
abbrev pub end_of : CertifyAnswer → Result CheckedCertificate Stop
end_of (answer.Checked checked) = Ok checked
end_of (answer.Refused r) = Err (Refused r)

abbrev pub IsAnswer : Option Files → Names → List ℕ → List (List ℕ) → CertifyAnswer → Type 0
IsAnswer told names cert calls a = Rechecks told names cert calls (end_of a)

abbrev pub found_status : Rechecked → Status
found_status (Certified n) = status.Done
found_status (BadLine line) = status.BadCertificate
found_status (Cyclic duty cycle) = status.Undecided
found_status (TooLarge duty terms nodes) = status.TooLarge

abbrev pub found_text : Script → (cert : List ℕ) → Rechecked → List ℕ
found_text t cert (Certified n) = certified_text n
found_text t cert (BadLine line) = bad_line_text cert line
found_text t cert (Cyclic duty cycle) = cyclic_text t duty cycle
found_text t cert (TooLarge duty terms nodes) = too_large_text t duty terms nodes

abbrev pub checked_text : CheckedCertificate → List ℕ
checked_text checked = found_text (script_of checked.script) checked.cert checked.found

abbrev pub status_of : CertifyAnswer → Status
status_of (answer.Checked checked) = found_status checked.found
status_of (answer.Refused r) = refusal_status r

abbrev pub text_of : CertifyAnswer → List ℕ
text_of (answer.Checked checked) = checked_text checked
text_of (answer.Refused r) = refusal_text r
