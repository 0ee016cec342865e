-- How a run of `prove` ends.
use Rattle.std.specs.Prelude.{◌≡◌, ◌≢◌, ◌⊎◌, ℕ, List, Option, Ok, Err}
use Rattle.app_flow.specs.Files.{Files}
use Rattle.type_schema.specs.Script.{Script}
use Rattle.type_schema.specs.SchemaViews.{script_of}
use Rattle.check_scripts.specs.Outcomes.{accepted}
use Rattle.check_scripts.specs.Views.{outcome_data}
use Rattle.duty_meaning.specs.declared.duty.Duty.{Duty}
use Rattle.certify_proving.specs.Proved.{IsCutBy, IsLeftBy, IsOpenBy, IsProved, WithSignature}
use Rattle.certify_proving.specs.declared.fault.ProveErr.{ProveErr}
use Rattle.certify_proving.specs.declared.fault.ProveErr.TheVariants as err
use Rattle.certify_proving.specs.declared.fault.ProveErr.TheVariants.{NotRefuted}
use Rattle.app_files.specs.Answer.{ChecksFiles}
use Rattle.app_files.specs.Ends.{IsPut}
use Rattle.app_files.specs.Words.{Names}
use Rattle.app_files.specs.declared.answer.Answer.TheVariants as answer
use Rattle.app_files.specs.declared.answer.Checked.{Checked}
use Rattle.app_files.specs.declared.refusal.Refusal.{Refusal}
use Rattle.app_files.specs.declared.status.Status.{Status}
use Rattle.app_files.specs.declared.status.Status.TheVariants.{Done, ReadFault, WriteFault, OutOfMemory}
use Rattle.app_files.specs.declared.stop.Stop.TheVariants as stop

-- how a run ends that writes no certificate to its end
abbrev pub fault_status : ProveErr → Status
fault_status (NotRefuted duty) = OutOfMemory
fault_status err.WriteFault = WriteFault
fault_status err.OutOfMemory = OutOfMemory

-- A certificate of the script was put into the output; or a front of it, as far as it was made, cut short by a fault; or there was not enough memory, and
-- nothing was put, or a first line and the parts of some obligations; or so far and no further, since some assignment is lawful for the clauses of the next
-- obligation, which is not known to be impossible.
pub data IsProof (t : Script) (before after : Option (List ℕ)) (status : Status) : Type 0 where
  Whole : status ≡ Done → IsProved t before after → IsProof t before after status
  Cut : status ≡ WriteFault → WithSignature t (λ g. IsCutBy t g before after) → IsProof t before after status
  Left : status ≡ OutOfMemory → (after ≡ before) ⊎ WithSignature t (λ g. (count : ℕ) × IsLeftBy t g count before after) → IsProof t before after status
  Open : status ≡ OutOfMemory → (duty : Duty) → WithSignature t (λ g. IsOpenBy t g duty before after) → IsProof t before after status

-- The script was accepted, and its certificate is put into the output; or it was not, and the report on it is.
pub data IsReportedAs (checked : Checked) (before after : Option (List ℕ)) (status : Status) : Type 0 where
  Proved : (n : ℕ) → outcome_data checked.outcome ≡ accepted n → IsProof (script_of checked.script) before after status → IsReportedAs checked before after status
  Found : ((n : ℕ) → outcome_data checked.outcome ≢ accepted n) → IsPut (answer.Checked checked) before after status → IsReportedAs checked before after status

-- The script in the files was checked, and its certificate or the report is put into the output; or the files are refused; or the shelf met a fault; or there
-- was not enough memory. These names are fetched on the way.
pub data ProveEnds (files : Option Files) (names : Names) (calls : List (List ℕ)) (before after : Option (List ℕ)) (status : Status) : Type 0 where
  Judged : (checked : Checked) → ChecksFiles files names calls (Ok checked) → IsReportedAs checked before after status → ProveEnds files names calls before after status
  Refused : (r : Refusal) → ChecksFiles files names calls (Err (stop.Refused r)) → IsPut (answer.Refused r) before after status → ProveEnds files names calls before after status
  Unread : status ≡ ReadFault → ChecksFiles files names calls (Err stop.ReadFault) → ProveEnds files names calls before after status
  NoMemory : status ≡ OutOfMemory → ChecksFiles files names calls (Err stop.OutOfMemory) → ProveEnds files names calls before after status
