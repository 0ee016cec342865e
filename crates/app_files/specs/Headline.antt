-- What the check of a script says of it, and the end of a run of the script in the files that its words name.
use Rattle.std.specs.Prelude.{◌≡◌, ◌⊎◌, ℕ, List, Option, Some, IfSome, Ok, MatchOption}
use Rattle.app_flow.specs.Files.{Files}
use Rattle.app_flow.specs.Told.{Appends}
use Rattle.type_schema.specs.Script.{Script}
use Rattle.type_schema.specs.declared.rights.Right.TheVariants.{Read}
use Rattle.type_schema.specs.declared.rights.Target.TheVariants as on
use Rattle.type_schema.specs.Schema.{FieldInfo}
use Rattle.type_schema.specs.Trees.{Init}
use Rattle.data_meaning.specs.Database.{IsInOrder}
use Rattle.data_meaning.specs.declared.cells.Cell.{Cell}
use Rattle.data_meaning.specs.Gain.{GainAt, AddsAt, FlowAt}
use Rattle.data_meaning.specs.Secure.{IsSecure, IsStepSecure}
use Rattle.type_schema.specs.SchemaViews.{script_of}
use Rattle.check_scripts.specs.Outcomes.{Outcome, accepted, leak, undecided, too_large}
use Rattle.check_scripts.specs.Sound.{IsDecidable}
use Rattle.check_scripts.specs.Views.{outcome_data}
use Rattle.check_witness.specs.Printed.{witness_text}
use Rattle.check_witness.specs.Witness.{Witness}
use Rattle.app_files.specs.declared.status.Status.{Status}
use Rattle.app_files.specs.declared.status.Status.TheVariants.{Done, Leak, ReadFault, WriteFault, OutOfMemory}
use Rattle.app_files.specs.declared.answer.Checked.{Checked}
use Rattle.app_files.specs.Answer.{Asks, both_files}
use Rattle.app_files.specs.Stages.{Stage}
use Rattle.app_files.specs.Words.{Names}

-- On its start database the principal of the witness reads the cell through the field that the command adds: to read this field is the
-- right of the witness on its target.
pub record LeaksCell (t : Script) (w : Witness) (cell : Cell) : Type 0 where
  pub flow : FlowAt t w.command w.base w.row w.who cell
  pub model : ℕ
  pub field : FieldInfo
  pub init : Init
  pub adds : AddsAt t w.command model field init
  pub target : w.target ≡ on.Field model field.number
  pub right : w.right ≡ Read

-- The witness is real: on its start database its principal gains the right on its record by its command, or the cell leaks there.
abbrev pub IsReal : Script → Witness → Type 0
IsReal t w = MatchOption w.cell (GainAt t w.command w.target w.right w.base w.row w.who) (LeaksCell t w)

-- What the outcome says of the script. An accepted one is secure, at each of its commands and as a whole: on every start database, of any
-- size. Where it leaks, the witness is real, and the script is not secure at each command. Where the outcome is no decision, some obligation
-- cannot be decided.
abbrev pub Verdict : Script → Outcome → Type 0
Verdict t (accepted n) = IsStepSecure t × IsSecure t
Verdict t (leak w) = IsInOrder t.start w.base × IsReal t w × (IsStepSecure t → ⊥)
Verdict t (undecided duty cycle) = IsDecidable t → ⊥
Verdict t (too_large duty terms nodes) = IsDecidable t → ⊥

-- The script that was checked is the one that is asked for, and the outcome says this of it.
abbrev pub IsJudged : Stage Script → Checked → Type 0
IsJudged asks checked = asks (Ok (script_of checked.script)) × Verdict (script_of checked.script) (outcome_data checked.outcome)

-- What was put out is the text of a real witness. The tables of its database are those of the models in their order, so the text tells the
-- witness.
pub record ShowsLeak (t : Script) (before after : Option (List ℕ)) : Type 0 where
  pub witness : Witness
  pub tables : IsInOrder t.start witness.base
  pub real : IsReal t witness
  pub shown : Appends before after (witness_text t witness)

-- The script is secure and accepted, or it is not and leaks; or a fault or want of memory ended the run.
pub data IsDecided (t : Script) (status : Status) : Type 0 where
  Accepts : status ≡ Done → IsStepSecure t → IsDecided t status
  Leaks : status ≡ Leak → (IsStepSecure t → ⊥) → IsDecided t status
  Faults : (status ≡ ReadFault) ⊎ (status ≡ WriteFault) ⊎ (status ≡ OutOfMemory) → IsDecided t status

-- Where the script is accepted, it is secure, at each of its commands and as a whole: on every start database, of any size. Where it leaks,
-- a real witness is put out. Where each of its obligations can be decided, it is accepted or leaks.
pub record Headline (told : Option Files) (names : Names) (before after : Option (List ℕ)) (status : Status) : Type 0 where
  pub secure : status ≡ Done → (t : Script) × Asks told names (both_files names) (Ok t) × IsStepSecure t × IsSecure t
  pub leak : status ≡ Leak → (t : Script) × Asks told names (both_files names) (Ok t) × ShowsLeak t before after
  pub decided : IfSome told (λ files. (t : Script) → Asks (Some files) names (both_files names) (Ok t) → IsDecidable t → IsDecided t status)
