-- `migrate`: what `apply` of the file would do to what the door holds.
use Rattle.std.specs.Prelude.{◌≡◌, ◌≢◌, ℕ, List, map, Option, None, Some, Ok, Err, if◌then◌else◌}
use Rattle.std.specs.Option.{option_map_or}
use Rattle.app_flow.specs.Files.{Files}
use Rattle.app_files.specs.declared.answer.Checked.{Checked}
use Rattle.app_files.specs.declared.stop.Stop.TheVariants as stop
use Rattle.app_files.specs.Answer.{checked_text, refusal_text}
use Rattle.app_files.specs.Stages.{Inside, Next}
use Rattle.app_store.specs.declared.stop.StoreStop.{StoreStop}
use Rattle.app_store.specs.declared.stop.StoreStop.TheVariants as why
use Rattle.app_store.specs.Answer.{ChecksScript}
use Rattle.app_store.specs.Report.{applied_text, store_refusal_text}
use Rattle.app_store.specs.Calls.{Call}
use Rattle.app_store.specs.Stages.{StorePart, Makes}
use Rattle.app_store.specs.Store.{MayRise}
use Rattle.check_scripts.specs.Outcomes.{accepted}
use Rattle.check_scripts.specs.Views.{outcome_data}
use Rattle.type_schema.specs.Schema.{Schema}
use Rattle.type_schema.specs.Script.{count, schema_at}
use Rattle.type_schema.specs.SchemaViews.{script_of}
use Rattle.type_anew.specs.Policies.{renumbered_principal}
use Rattle.data_meaning.specs.declared.principals.Principal.{Principal}
use Rattle.store_apply.specs.Applied.{IsApplied}
use Rattle.store_keeper.specs.Stored.{Stored}
use Rattle.door_meaning.specs.Names.{stands_in}
use Rattle.door_meaning.specs.Replies.{Script}
use Rattle.door_meaning.specs.Sessions.{Outcome}
use Rattle.door_meaning.specs.declared.session.Session.{Session}
use Rattle.door_meaning.specs.State.{State}

-- the principal under the numbers of the schema numbered anew, or none where its static or model is gone
abbrev pub moved_principal : Schema → Principal → Option Principal
moved_principal s who = if stands_in s who then Some (renumbered_principal s who) else None

-- a session keeps its version, so it is stale
abbrev pub moved_session : Schema → Session → Session
moved_session s session = record session { who = option_map_or (moved_principal s) session.who None }

-- the schema that a checked script ends with
abbrev pub last_schema : Checked → Schema
last_schema checked = let t = script_of checked.script in schema_at t (count t)

-- what is made of a script that was checked over what the door holds
pub data IsMigrated (st : State) (checked : Checked) (outcome : Outcome) : Type 0 where
  Applies : (n : ℕ) (after : Stored) → outcome_data checked.outcome ≡ accepted n → IsApplied st.stored (script_of checked.script) after
      → outcome ≡ record { reply = Script (applied_text n after.version); state = record { stored = after; sessions = map (moved_session (last_schema checked)) st.sessions } }
      → IsMigrated st checked outcome
  Leaves : ((n : ℕ) → outcome_data checked.outcome ≢ accepted n) → outcome ≡ record { reply = Script (checked_text checked); state = st } → IsMigrated st checked outcome

-- The version can rise; the file is fetched, and is a script over the door's schema, which is checked.
abbrev pub Migrates : Option Files → State → List ℕ → StorePart Outcome
Migrates files st name =
    Next (Inside (MayRise st.stored))
    (λ held. Next (ChecksScript (record { files = files; content = None }) name held.schema) (λ checked. Inside (Makes (IsMigrated st checked))))

-- the report of what stopped it
abbrev pub IsStopText : StoreStop → List ℕ → Type 0
IsStopText (why.Files (stop.Refused refusal)) text = text ≡ refusal_text refusal
IsStopText (why.Files stop.ReadFault) text = ⊥
IsStopText (why.Files stop.OutOfMemory) text = ⊥
IsStopText (why.Refused refusal) text = text ≡ store_refusal_text refusal
IsStopText why.StoreFault text = ⊥

-- `migrate` with this name is answered so, and these calls are made
pub data IsMigration (files : Option Files) (st : State) (name : List ℕ) (calls : List Call) (outcome : Outcome) : Type 0 where
  Ran : Migrates files st name calls (Ok outcome) → IsMigration files st name calls outcome
  Stopped : (reason : StoreStop) (text : List ℕ) → Migrates files st name calls (Err reason) → IsStopText reason text
      → outcome ≡ record { reply = Script text; state = st } → IsMigration files st name calls outcome
