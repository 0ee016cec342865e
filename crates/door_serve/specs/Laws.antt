-- What holds of every migration.
use Rattle.std.specs.Prelude.{◌≡◌, ◌⊎◌, ◌<◌, ℕ, true, List, map, Option, Ok}
use Rattle.app_files.specs.Answer.{ScriptOf}
use Rattle.app_files.specs.Loads.{Fetches}
use Rattle.app_files.specs.Stages.{Then}
use Rattle.app_flow.specs.Files.{Files}
use Rattle.app_store.specs.Calls.{Call}
use Rattle.data_meaning.specs.declared.principals.Principal.{Principal}
use Rattle.data_meaning.specs.Secure.{IsSecure, IsStepSecure}
use Rattle.door_requests.specs.declared.requests.Who.{Who}
use Rattle.door_meaning.specs.Migrates.{IsMigration, moved_session}
use Rattle.door_meaning.specs.Names.{principal_named, stands_in}
use Rattle.door_meaning.specs.Sessions.{Outcome, entered, opened}
use Rattle.door_meaning.specs.State.{AllStale, NoneAhead, State}
use Rattle.door_meaning.specs.Step.{DoorStep, Line}
use Rattle.store_apply.specs.Applied.{IsApplied}
use Rattle.store_keeper.specs.Stored.{last_version}
use Rattle.type_schema.specs.Script.{Script, count, schema_at}

-- The script in the file over what was stored is secure, at each of its commands and as a whole: on every start database, of any size. What is
-- stored then is its meaning. Each session keeps its version, so it is stale, and its principal has its new number, or it has none where that is gone.
pub record MigratesSecurely (files : Option Files) (st : State) (name : List ℕ) (after : State) : Type 0 where
  pub script : Script
  pub asks : Then (Fetches files name) (ScriptOf name st.stored.schema) (Ok script)
  pub rises : st.stored.version < last_version
  pub step_secure : IsStepSecure script
  pub secure : IsSecure script
  pub applied : IsApplied st.stored script after.stored
  pub sessions : after.sessions ≡ map (moved_session (schema_at script (count script))) st.sessions
  pub stale : NoneAhead st → AllStale after

-- `migrate` leaves all as it was, or migrates so.
abbrev pub MigrationsAreSecure : Type 0
MigrationsAreSecure =
    (files : Option Files) (st : State) (name : List ℕ) (calls : List Call) (outcome : Outcome) → IsMigration files st name calls outcome
    → (outcome.state ≡ st) ⊎ MigratesSecurely files st name outcome.state

-- No step brings a session to a later version than the door's, so each session is stale after a migration.
abbrev pub NoSessionRunsAhead : Type 0
NoSessionRunsAhead = (files : Option Files) (st : State) (line : Line) (calls : List Call) (outcome : Outcome) → DoorStep files st line calls outcome → NoneAhead st → NoneAhead outcome.state

-- What `open` does where its principal is one of the schema.
abbrev pub EnteringIsOpening : Type 0
EnteringIsOpening =
    (st : State) (session : List ℕ) (named : Who) (who : Principal) → principal_named st.stored.schema named ≡ Ok who
    → (stands_in st.stored.schema who ≡ true) × (entered st session who ≡ opened st session named)
