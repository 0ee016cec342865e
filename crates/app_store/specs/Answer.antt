-- What the commands over the store answer, what they then store, and what they print.
use Rattle.std.specs.Prelude.{◌≡◌, ◌≢◌, ℕ, List, Option, Some, None, Result, Ok, Err}
use Rattle.app_files.specs.declared.answer.Checked.{Checked}
use Rattle.app_files.specs.declared.stop.Stop.TheVariants as stop
use Rattle.app_files.specs.declared.status.Status.{Status}
use Rattle.app_files.specs.declared.status.Status.TheVariants as status
use Rattle.app_files.specs.Answer.{SpecOf, ScriptOf, Checks, refusal_status, outcome_status, refusal_text, checked_text}
use Rattle.app_files.specs.Loads.{Fetches}
use Rattle.app_files.specs.Stages.{Then, Gives, Stopping, Inside, Calling, Next}
use Rattle.check_scripts.specs.Outcomes.{accepted}
use Rattle.check_scripts.specs.Views.{outcome_data}
use Rattle.type_schema.specs.Schema.{Schema}
use Rattle.type_schema.specs.SchemaViews.{script_of}
use Rattle.data_meaning.specs.Database.{Database}
use Rattle.data_records.specs.Inserted.{empty_of}
use Rattle.store_keeper.specs.declared.keeper.KeepCall.TheVariants.{Load}
use Rattle.store_keeper.specs.declared.stored.Stored as code
use Rattle.store_keeper.specs.Stored.{Stored, stored_of}
use Rattle.store_apply.specs.Applied.{IsApplied, initial_of}
use Rattle.store_apply.specs.Settling.{IsRenumbered}
use Rattle.store_show.specs.Texts.{show_text}
use Rattle.app_store.specs.declared.answer.StoreAnswer.{StoreAnswer}
use Rattle.app_store.specs.declared.answer.StoreAnswer.TheVariants as answer
use Rattle.app_store.specs.declared.stop.StoreRefusal.{StoreRefusal}
use Rattle.app_store.specs.declared.stop.StoreRefusal.TheVariants.{IsSet, IsEmpty, IsSpent, Data}
use Rattle.app_store.specs.declared.stop.StoreStop.{StoreStop}
use Rattle.app_store.specs.declared.stop.StoreStop.TheVariants.{Files, Refused}
use Rattle.app_store.specs.Calls.{Fetch, Keep}
use Rattle.app_store.specs.Data.{DataOfFile}
use Rattle.app_store.specs.Report.{ok_version_text, applied_text, store_refusal_text}
use Rattle.app_store.specs.Stages.{StorePart, Decides, Makes}
use Rattle.app_store.specs.Store.{Loads, IsFree, Holds, MayRise}
use Rattle.app_store.specs.Told.{Told}
use Rattle.app_store.specs.Words.{Command, Init, Check, Apply, Show}

-- ---- the stages, in their order

-- The store is asked, and holds nothing yet.
abbrev pub AsksFree : Told → StorePart (Unit {0})
AsksFree told = Calling (Keep Load) (Then (Loads told.content) IsFree)

-- The store is asked, and holds this.
abbrev pub AsksHeld : Told → StorePart Stored
AsksHeld told = Calling (Keep Load) (Then (Loads told.content) Holds)

-- The store is asked, and holds this, whose version can rise.
abbrev pub AsksRising : Told → StorePart Stored
AsksRising told = Calling (Keep Load) (Then (Then (Loads told.content) Holds) MayRise)

-- The file is fetched and is a specification, whose schema is numbered anew.
abbrev pub AsksSchema : Told → List ℕ → StorePart Schema
AsksSchema told name =
    Calling (Fetch name) (Then (Stopping Files (Then (Fetches told.files name) (SpecOf name))) (λ s. Makes (IsRenumbered s)))

-- The file of the data, where one is named, is fetched and writes this database; else it is that without records.
abbrev pub AsksBase : Told → Option (List ℕ) → Schema → StorePart Database
AsksBase told None s = Inside (Makes (λ d. d ≡ empty_of s))
AsksBase told (Some name) s = Calling (Fetch name) (DataOfFile told.files name s)

-- The file is fetched and is a script over the schema, which is checked.
abbrev pub ChecksScript : Told → List ℕ → Schema → StorePart Checked
ChecksScript told name s = Calling (Fetch name) (Stopping Files (Then (Then (Fetches told.files name) (ScriptOf name s)) Checks))

-- `init`: the schema and the database are to be stored.
abbrev pub Inits : Told → List ℕ → Option (List ℕ) → StorePart StoreAnswer
Inits told spec base_name =
    Next (AsksFree told)
    (λ x. Next (AsksSchema told spec)
    (λ s. Next (AsksBase told base_name s)
    (λ d. Inside (Decides (λ r. ⊥) (λ a. (after : code.Stored) × (a ≡ answer.Initialised after) × (stored_of after ≡ initial_of s d))))))

-- `check SCRIPT`
abbrev pub ChecksHeld : Told → List ℕ → StorePart StoreAnswer
ChecksHeld told name = Next (AsksHeld told) (λ s calls. Gives answer.Checked (ChecksScript told name s.schema calls))

-- What is made of a script that is checked over what is stored: where it is accepted, what is to be stored then.
pub data IsDecision (s : Stored) (checked : Checked) (a : StoreAnswer) : Type 0 where
  Applies : (n : ℕ) (after : code.Stored) → outcome_data checked.outcome ≡ accepted n → IsApplied s (script_of checked.script) (stored_of after)
      → a ≡ answer.Applied n after → IsDecision s checked a
  Leaves : ((n : ℕ) → outcome_data checked.outcome ≢ accepted n) → a ≡ answer.Checked checked → IsDecision s checked a

-- `apply SCRIPT`
abbrev pub AppliesScript : Told → List ℕ → StorePart StoreAnswer
AppliesScript told name =
    Next (AsksRising told) (λ s. Next (ChecksScript told name s.schema) (λ checked. Inside (Makes (IsDecision s checked))))

-- `show`
abbrev pub Shows : Told → StorePart StoreAnswer
Shows told = Next (AsksHeld told) (λ s. Inside (Decides (λ r. ⊥) (λ a. (held : code.Stored) × (a ≡ answer.Shown held) × (stored_of held ≡ s))))

-- What the command comes to, and the calls that are made for it, but for that which stores.
abbrev pub Runs : Told → Command → StorePart StoreAnswer
Runs told (Init spec base_name) = Inits told spec base_name
Runs told (Check script) = ChecksHeld told script
Runs told (Apply script) = AppliesScript told script
Runs told Show = Shows told

-- ---- the answers

-- how the stages end with an answer
abbrev pub end_of : StoreAnswer → Result StoreAnswer StoreStop
end_of (answer.Initialised after) = Ok (answer.Initialised after)
end_of (answer.Checked checked) = Ok (answer.Checked checked)
end_of (answer.Applied n after) = Ok (answer.Applied n after)
end_of (answer.Shown held) = Ok (answer.Shown held)
end_of (answer.FilesRefused r) = Err (Files (stop.Refused r))
end_of (answer.Refused r) = Err (Refused r)

-- what is to be stored
abbrev pub stored_by : StoreAnswer → Option Stored
stored_by (answer.Initialised after) = Some (stored_of after)
stored_by (answer.Checked checked) = None
stored_by (answer.Applied n after) = Some (stored_of after)
stored_by (answer.Shown held) = None
stored_by (answer.FilesRefused r) = None
stored_by (answer.Refused r) = None

abbrev pub store_refusal_status : StoreRefusal → Status
store_refusal_status IsSet = status.StoreState
store_refusal_status IsEmpty = status.StoreState
store_refusal_status IsSpent = status.StoreState
store_refusal_status (Data name e) = status.TypesRefused

abbrev pub status_of : StoreAnswer → Status
status_of (answer.Initialised after) = status.Done
status_of (answer.Checked checked) = outcome_status (outcome_data checked.outcome)
status_of (answer.Applied n after) = status.Done
status_of (answer.Shown held) = status.Done
status_of (answer.FilesRefused r) = refusal_status r
status_of (answer.Refused r) = store_refusal_status r

abbrev pub text_of : StoreAnswer → List ℕ
text_of (answer.Initialised after) = ok_version_text after.version
text_of (answer.Checked checked) = checked_text checked
text_of (answer.Applied n after) = applied_text n after.version
text_of (answer.Shown held) = show_text (stored_of held)
text_of (answer.FilesRefused r) = refusal_text r
text_of (answer.Refused r) = store_refusal_text r
