-- No session runs ahead of the door.
use Rattle.std.proofs.Common.{◌≡◌, ◌<◌, ◌≤◌, ℕ, Bool, true, false, ◌+◌, List, [], ◌∷◌, ◌++◌, Option, None, Some, ap, sym, subst, cond, map, arith}
use Rattle.std.specs.Prelude.{not, Result, Ok, Err}
use Rattle.std.specs.List.{AllByRecursion}
use Rattle.app_files.specs.declared.answer.Checked.{Checked}
use Rattle.app_files.specs.Stages.{Stopped, Went}
use Rattle.app_flow.specs.Files.{Files}
use Rattle.app_store.specs.Calls.{Call}
use Rattle.data_meaning.specs.declared.principals.Principal.{Principal}
use Rattle.data_records.specs.Changed.{change_first, with_field}
use Rattle.data_records.specs.Inserted.{with_row}
use Rattle.data_records.specs.Removed.{without_first, without_record}
use Rattle.door_requests.specs.declared.requests.Request.{Request}
use Rattle.door_requests.specs.declared.requests.Request.TheVariants as request
use Rattle.door_requests.specs.declared.requests.Who.{Who}
use Rattle.door_meaning.specs.declared.session.Session.{Session}
use Rattle.door_meaning.specs.Migrates.{Applies, IsMigrated, IsMigration, Leaves, Ran, last_schema, moved_session}
use Rattle.door_meaning.specs.Migrates as migrates
use Rattle.door_meaning.specs.Names.{principal_named}
use Rattle.door_meaning.specs.Orders.{finds, goes, stops, unless}
use Rattle.door_meaning.specs.Records.{Making, Setting, create_stage, delete_stage, find_stage, ids_shown, judged_making, read_stage, ready_removal, ready_setting, unchanged, value_read, with_base, write_stage}
use Rattle.door_meaning.specs.Replies.{Reply, Done, Ids, New, NoRecord, NoSession, SessionTaken, Val, Version}
use Rattle.door_meaning.specs.Sessions.{Outcome, added, closed, has_principal, join_refusal, joined, live_session, opened, outcome_of, renewed}
use Rattle.door_meaning.specs.State.{NoneAhead, State, at_version, has_session, is_named, renewed_session, session_named, without_session}
use Rattle.door_meaning.specs.Step.{Answered, Badly, DoorStep, IsAnswered, Line, Quietly, TooLong}
use Rattle.type_schema.specs.Schema.{ModelInfo, Schema}
use Rattle.door_serve.specs.Laws.{NoSessionRunsAhead}

-- ---- lists of sessions

more : (P : Session → Type 0) (xs : List Session) (x : Session) → AllByRecursion P xs → P x → AllByRecursion P (xs ++ x ∷ [])
more P [] x all p = (p, tt)
more P (y ∷ xs) x all p = (all.0, more P xs x all.1 p)

less : (P : Session → Type 0) (is : Session → Bool) (xs : List Session) → AllByRecursion P xs → AllByRecursion P (without_first is xs)
less P is [] all = tt
less P is (x ∷ xs) all =
    elim (is x) as (λ (b : Bool). AllByRecursion P (cond b xs (x ∷ without_first is xs))) [
      | true ↦ all.1
      | false ↦ (all.0, less P is xs all.1)
    ]

changed : (P : Session → Type 0) (is : Session → Bool) (change : Session → Session) → ((x : Session) → P (change x)) → (xs : List Session) → AllByRecursion P xs → AllByRecursion P (change_first is change xs)
changed P is change p [] all = tt
changed P is change p (x ∷ xs) all =
    elim (is x) as (λ (b : Bool). AllByRecursion P (cond b (change x ∷ xs) (x ∷ change_first is change xs))) [
      | true ↦ (p x, all.1)
      | false ↦ (all.0, changed P is change p xs all.1)
    ]

-- a session keeps its version where the door's rises
pub moved-stale : (s : Schema) (version after : ℕ) → after ≡ version + 1 → (xs : List Session) → AllByRecursion (λ (x : Session). x.version ≤ version) xs
    → AllByRecursion (λ (x : Session). x.version < after) (map (moved_session s) xs)
moved-stale s version after next [] all = tt
moved-stale s version after next (x ∷ xs) all = (omega (arith, all.0, next), moved-stale s version after next xs all.1)

moved-behind : (s : Schema) (version after : ℕ) → after ≡ version + 1 → (xs : List Session) → AllByRecursion (λ (x : Session). x.version ≤ version) xs
    → AllByRecursion (λ (x : Session). x.version ≤ after) (map (moved_session s) xs)
moved-behind s version after next [] all = tt
moved-behind s version after next (x ∷ xs) all = (omega (arith, all.0, next), moved-behind s version after next xs all.1)

-- ---- steps

module _ (st : State) (behind : NoneAhead st) where
  -- after a stage
  abbrev After : Result Outcome Reply → Type 0
  After stage = NoneAhead (outcome_of st stage).state

  -- a request on records leaves the sessions and the version
  on-records : {S A : Type 0} (live : Result S Reply) (part : S → Result A Reply) (whole : S → A → Outcome) → ((s : S) (x : A) → NoneAhead (whole s x).state)
      → After (goes live (λ s. goes (part s) (λ x. Ok (whole s x))))
  on-records (Err reply) part whole leaves = behind
  on-records {S} {A} (Ok s) part whole leaves =
      elim (part s) as (λ (r : Result A Reply). After (goes r (λ x. Ok (whole s x)))) [
        | Err reply ↦ behind
        | Ok x ↦ leaves s x
      ]

  module _ (name : List ℕ) where
    opened-behind : (who : Who) → NoneAhead (opened st name who).state
    opened-behind who =
        elim (has_session st name) as (λ (b : Bool). After (goes (unless b SessionTaken) (λ _. goes (principal_named st.stored.schema who) (joined st name)))) [
          | true ↦ behind
          | false ↦
              elim (principal_named st.stored.schema who) as (λ (r : Result Principal Reply). After (goes r (joined st name))) [
                | Err reply ↦ behind
                | Ok p ↦
                    elim (join_refusal st p) as (λ (o : Option Reply). After (goes (stops o) (λ _. Ok (added st name p)))) [
                      | None ↦ more (λ (x : Session). x.version ≤ st.stored.version) st.sessions (record { name = name; who = Some p; version = st.stored.version }) behind (omega arith)
                      | Some reply ↦ behind
                    ]
              ]
        ]

    closed-behind : NoneAhead (closed st name).state
    closed-behind =
        elim (has_session st name) as (λ (b : Bool). After (goes (unless (not b) NoSession) (λ _. Ok (record { reply = Done; state = without_session name st })))) [
          | true ↦ less (λ (x : Session). x.version ≤ st.stored.version) (is_named name) st.sessions behind
          | false ↦ behind
        ]

    renewed-behind : NoneAhead (renewed st name).state
    renewed-behind =
        elim (session_named st name) as (λ (o : Option Session).
        After (goes (finds o NoSession) (λ (s : Session). goes (unless (not (has_principal st s)) NoRecord) (λ _. Ok (record { reply = Version st.stored.version; state = renewed_session name st }))))) [
          | None ↦ behind
          | Some s ↦
              elim (has_principal st s) as (λ (b : Bool). After (goes (unless (not b) NoRecord) (λ _. Ok (record { reply = Version st.stored.version; state = renewed_session name st })))) [
                | true ↦ changed (λ (x : Session). x.version ≤ st.stored.version) (is_named name) (at_version st.stored.version) (λ x. omega arith) st.sessions behind
                | false ↦ behind
              ]
        ]

  as-state : (outcome : Outcome) (s : State) → outcome.state ≡ s → NoneAhead s → NoneAhead outcome.state
  as-state outcome s is none = subst NoneAhead (sym is) none

  migrated-behind : (checked : Checked) (outcome : Outcome) → IsMigrated st checked outcome → NoneAhead outcome.state
  migrated-behind checked outcome (Leaves other e) = as-state outcome st (ap (λ (o : Outcome). o.state) e) behind
  migrated-behind checked outcome (Applies n after accepts applied e) =
      as-state outcome (record { stored = after; sessions = map (moved_session (last_schema checked)) st.sessions }) (ap (λ (o : Outcome). o.state) e)
      (moved-behind (last_schema checked) st.stored.version after.version applied.version st.sessions behind)

  migration-behind : (files : Option Files) (name : List ℕ) (calls : List Call) (outcome : Outcome) → IsMigration files st name calls outcome → NoneAhead outcome.state
  migration-behind files name calls outcome (migrates.Stopped reason text stops is_text e) = as-state outcome st (ap (λ (o : Outcome). o.state) e) behind
  migration-behind files name calls outcome (Ran (Stopped s p e)) = absurd cc
  migration-behind files name calls outcome (Ran (Went held before after first (Stopped s p e) split)) = absurd cc
  migration-behind files name calls outcome (Ran (Went held before after first (Went checked b a checks made more) split)) = migrated-behind checked outcome made.1

  -- an outcome that is known
  known : (outcome one : Outcome) → outcome ≡ one → NoneAhead one.state → NoneAhead outcome.state
  known outcome one is none = as-state outcome one.state (ap (λ (o : Outcome). o.state) is) none

  answered-behind : (files : Option Files) (r : Request) (calls : List Call) (outcome : Outcome) → IsAnswered files st r calls outcome → NoneAhead outcome.state
  answered-behind files (request.Open session who at) calls outcome is = known outcome (opened st session.name who) is.1 (opened-behind session.name who)
  answered-behind files (request.Renew session at) calls outcome is = known outcome (renewed st session.name) is.1 (renewed-behind session.name)
  answered-behind files (request.Close session at) calls outcome is = known outcome (closed st session.name) is.1 (closed-behind session.name)
  answered-behind files (request.Read session model id field at) calls outcome is =
      known outcome (outcome_of st (read_stage st session model id field)) is.1
      (on-records (live_session st session.name) (λ (s : Session). value_read st.stored.schema st.stored.base s.who model id.number field)
      (λ s v. unchanged (Val v) st) (λ s x. behind))
  answered-behind files (request.Find session model conditions at) calls outcome is =
      known outcome (outcome_of st (find_stage st session model conditions)) is.1
      (on-records (live_session st session.name) (λ (s : Session). ids_shown st.stored.schema st.stored.base s.who model conditions)
      (λ s ids. unchanged (Ids ids) st) (λ s x. behind))
  answered-behind files (request.Write session model id field value at) calls outcome is =
      known outcome (outcome_of st (write_stage st session model id field value)) is.1
      (on-records (live_session st session.name) (λ (s : Session). ready_setting st.stored.schema st.stored.base s.who model id.number field value)
      (λ s (set : Setting). with_base Done (with_field set.info.number id.number set.field.number set.value st.stored.base) st) (λ s x. behind))
  answered-behind files (request.Create session model row at) calls outcome is =
      known outcome (outcome_of st (create_stage st session model row)) is.1
      (on-records (live_session st session.name) (λ (s : Session). judged_making st.stored.schema st.stored.base s.who model row)
      (λ s (made : Making). with_base (New made.id) (with_row made.info made.row st.stored.base) st) (λ s x. behind))
  answered-behind files (request.Delete session model id at) calls outcome is =
      known outcome (outcome_of st (delete_stage st session model id)) is.1
      (on-records (live_session st session.name) (λ (s : Session). ready_removal st.stored.schema st.stored.base s.who model id.number)
      (λ s (m : ModelInfo). with_base Done (without_record m.number id.number st.stored.base) st) (λ s x. behind))
  answered-behind files (request.Migrate name at) calls outcome is = migration-behind files name calls outcome is

pub never-ahead : NoSessionRunsAhead
never-ahead files st line calls outcome step behind =
    go line calls outcome step
  where
    go : (l : Line) (c : List Call) (o : Outcome) → DoorStep files st l c o → NoneAhead o.state
    go l c o (Quietly bytes is) = behind
    go l c o (Answered bytes r more out is answered) = answered-behind st behind files r more out answered
    go l c o (Badly bytes e at refused bad) = behind
    go l c o TooLong = behind
