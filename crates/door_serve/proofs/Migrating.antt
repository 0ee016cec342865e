-- From the stages of `migrate` to what was done.
use Rattle.std.proofs.Common.{◌≡◌, ℕ, ◌<◌, List, [], ◌∷◌, Option, None, Some, refl, ap, sym, ◌∙◌, subst, append-nil, inl, inr, map, ◌++◌, ◌+◌, arith}
use Rattle.std.specs.Prelude.{◌⊎◌, true, IfOk, Result, Ok, Err}
use Rattle.std.specs.List.{flat_map}
use Rattle.app_files.specs.declared.answer.Checked.{Checked}
use Rattle.app_files.specs.declared.stop.Stop.{Stop}
use Rattle.app_files.specs.declared.stop.Stop.TheVariants as stop
use Rattle.app_files.specs.Answer.{Checks, ScriptOf}
use Rattle.app_files.specs.Loads.{Fetches}
use Rattle.app_files.specs.Stages.{Stopped, Then, Went}
use Rattle.app_flow.specs.Files.{Files}
use Rattle.app_flow.specs.Outside.{IsRead}
use Rattle.app_flow.proofs.OutsideLemmas.{read-as, read-none}
use Rattle.app_store.specs.declared.stop.StoreStop.{StoreStop}
use Rattle.app_store.specs.declared.stop.StoreStop.TheVariants as why
use Rattle.app_store.specs.declared.stop.StoreRefusal.TheVariants.{IsSpent}
use Rattle.app_store.specs.Calls.{Call, Fetch, fetched_by}
use Rattle.app_store.specs.Headline.{IsHeld}
use Rattle.app_store.specs.Told.{IsKept}
use Rattle.app_store.specs.Report.{applied_text}
use Rattle.app_store.proofs.Ran.{kept-none}
use Rattle.app_store.proofs.Staged.{files-stopped}
use Rattle.check_scripts.specs.Outcomes.{accepted}
use Rattle.check_scripts.specs.Views.{outcome_data}
use Rattle.door_meaning.specs.declared.reply.Reply as code
use Rattle.door_meaning.specs.Migrates.{Applies, IsMigrated, IsMigration, IsStopText, Leaves, Ran, last_schema, moved_session}
use Rattle.door_meaning.specs.Migrates as migrates
use Rattle.door_meaning.specs.Replies.{Reply, Script, reply_data, tells_change}
use Rattle.door_meaning.specs.Sessions.{Outcome}
use Rattle.door_meaning.specs.State.{State}
use Rattle.door_meaning.specs.Step.{ItsFile, MayFetch, NoFile}
use Rattle.door_requests.specs.declared.requests.Request.TheVariants as request
use Rattle.door_meaning.specs.declared.session.Session.{Session}
use Rattle.store_apply.specs.Applied.{IsApplied}
use Rattle.store_keeper.specs.declared.keeper.KeepCall.{KeepCall}
use Rattle.store_keeper.specs.declared.keeper.KeepErr.{KeepErr}
use Rattle.store_keeper.specs.declared.keeper.KeepErr.TheVariants as keep
use Rattle.store_keeper.specs.Content.{Content, replaced}
use Rattle.store_keeper.specs.Stored.{IsStored, Stored, last_version}
use Rattle.type_schema.specs.Schema.{Schema}
use Rattle.type_schema.specs.SchemaViews.{script_of}
use Rattle.door_serve.specs.declared.door_err.DoorErr.{DoorErr}
use Rattle.door_serve.specs.declared.door_err.DoorErr.TheVariants.{OutOfMemory, ReadFault, StoreFault}
use Rattle.door_serve.specs.Doing.{Does, Ends, Never, Replaces}
use Rattle.door_serve.specs.Kept.{err_of}
use Rattle.door_serve.specs.Moving.{AsksScript, IsCarried, Kept, Lost, MigrationMayFetch, Said}
use Rattle.door_serve.specs.Moving as moving

-- what a store holds that tells it
pub held-stays : (content : Content) (s : Stored) → IsHeld content s → content ≡ replaced s content
held-stays None s held = refl
held-stays (Some x) s held = ap (λ (z : Option Stored). Some z) held.told

module _ (files : Option Files) (st : State) (name : List ℕ) (calls : List Call) where
  pub migrates-ok : (checked : Checked) (outcome : Outcome) → AsksScript files st.stored name calls (Ok checked) → IsMigrated st checked outcome → IsMigration files st name calls outcome
  migrates-ok checked outcome (Stopped s p e) migrated = absurd cc
  migrates-ok checked outcome (Went held before after first second split) migrated =
      Ran (Went held before after first (Went checked after [] second (refl, migrated) (sym (append-nil after))) split)

  pub migrates-err : (reason : StoreStop) (text : List ℕ) → AsksScript files st.stored name calls (Err reason) → IsStopText reason text
      → IsMigration files st name calls (record { reply = Script text; state = st })
  migrates-err reason text (Stopped s p e) is_text =
      let same : s ≡ reason = cc in
      migrates.Stopped reason text (Stopped s p (ap (λ (z : StoreStop). Err z) (sym same))) is_text refl
  migrates-err reason text (Went held before after first second split) is_text =
      migrates.Stopped reason text (Went held before after first (Stopped reason second refl) split) is_text refl

-- what the first stages fetch
pub asks-fetch : (files : Option Files) (st : State) (name : List ℕ) (calls : List Call) (end : Result Checked StoreStop) → AsksScript files st.stored name calls end → MigrationMayFetch st name calls
asks-fetch files st name calls end (Stopped s p e) = inl p.0
asks-fetch files st name calls end (Went held before after first second split) =
    inr (first.1.1, split ∙ ap (λ (c : List Call). c ++ after) first.0 ∙ second.0)

pub migration-fetch : (st : State) (name : List ℕ) (at : ℕ) (calls : List Call) → MigrationMayFetch st name calls → MayFetch st (request.Migrate name at) calls
migration-fetch st name at calls may =
    elim may [
      | inl none ↦ NoFile none
      | inr some ↦ ItsFile name at refl some.0 some.1
    ]

-- each outcome of a script is its report
script-tells : (st : State) (checked : Checked) (outcome : Outcome) → IsMigrated st checked outcome → tells_change outcome.reply ≡ true
script-tells st checked outcome (Applies n after accepts applied e) = ap (λ (o : Outcome). tells_change o.reply) e
script-tells st checked outcome (Leaves other e) = ap (λ (o : Outcome). tells_change o.reply) e

module _ (files : Option Files) (st : State) (name : List ℕ) (calls : List Call) (checked : Checked) (asks : AsksScript files st.stored name calls (Ok checked)) where
  ends-as : (made : List KeepCall) (result one : Result code.Reply DoorErr) (after : State) → result ≡ one → Ends (IsMigration files st name) st calls made one after
      → Ends (IsMigration files st name) st calls made result after
  ends-as made result one after is ends = subst (λ (r : Result code.Reply DoorErr). Ends (IsMigration files st name) st calls made r after) (sym is) ends

  pub carried-ends : (made : List KeepCall) (result : Result code.Reply DoorErr) (after : State) → IsCarried (IsMigrated st checked) st made result after
      → Ends (IsMigration files st name) st calls made result after
  carried-ends made result after (Said answer comes none is same) =
      ends-as made result (Ok answer) after is
      (record { reply = reply_data answer; state = st }, migrates-ok files st name calls checked (record { reply = reply_data answer; state = st }) asks comes, refl, same, Never none refl)
  carried-ends made result after (Kept answer comes rises one is) =
      let outcome : Outcome = record { reply = reply_data answer; state = after } in
      ends-as made result (Ok answer) after is
      (outcome, migrates-ok files st name calls checked outcome asks comes, refl, refl, Replaces one rises (script-tells st checked outcome comes))
  carried-ends made result after (Lost outcome comes rises one failed same) =
      let migration = migrates-ok files st name calls checked outcome asks comes in
      let asked = Replaces one rises (script-tells st checked outcome comes) in
      elim failed [
        | inl is ↦ ends-as made result (Err StoreFault) after is (same, inr (outcome, migration, asked))
        | inr is ↦ ends-as made result (Err OutOfMemory) after is (same, inr (outcome, migration, asked))
      ]
  carried-ends made result after (moving.Stopped none failed same) =
      elim failed [
        | inl is ↦ ends-as made result (Err ReadFault) after is (same, inl none)
        | inr is ↦ ends-as made result (Err OutOfMemory) after is (same, inl none)
      ]

module _ {F : Type 0} (files : F → Option Files) (fetched : F → Option (List (List ℕ))) (unread : F → ℕ) (s : Stored) (name : List ℕ) (shelf shelf_after : F) where
  -- what the first stages came to, and what was fetched
  abbrev pub AsksSo : Result Checked StoreStop → Type 0
  AsksSo result =
      (calls : List Call) × AsksScript (files shelf) s name calls result
      × IsRead files fetched unread shelf shelf_after (flat_map fetched_by calls) (result ≡ Err (why.Files stop.ReadFault))

  -- the file was fetched, and the stages over it stopped
  pub asks-stopped : (result : Result Checked StoreStop) (r : Result Checked Stop) (e : Stop) → s.version < last_version → Then (Then (Fetches (files shelf) name) (ScriptOf name s.schema)) Checks (Err e)
      → r ≡ Err e → result ≡ Err (why.Files e) → IsRead files fetched unread shelf shelf_after (name ∷ []) (r ≡ Err stop.ReadFault) → AsksSo result
  asks-stopped result r e rises stage was is read = (
    Fetch name ∷ [],
    subst (λ (z : Result Checked StoreStop). AsksScript (files shelf) s name (Fetch name ∷ []) z) (sym is) (Went s [] (Fetch name ∷ []) (refl, (refl, rises)) (refl, (e, refl, stage)) refl),
    read-as files fetched unread shelf shelf_after (name ∷ []) (r ≡ Err stop.ReadFault) (result ≡ Err (why.Files stop.ReadFault)) (files-stopped r result e was is) read,
  )

  -- the script was checked
  pub asks-checked : (checked : Checked) (failed : Type 0) → s.version < last_version → Then (Then (Fetches (files shelf) name) (ScriptOf name s.schema)) Checks (Ok checked)
      → IsRead files fetched unread shelf shelf_after (name ∷ []) failed → AsksSo (Ok checked)
  asks-checked checked failed rises stage read = (
    Fetch name ∷ [],
    Went s [] (Fetch name ∷ []) (refl, (refl, rises)) (refl, stage) refl,
    read-as files fetched unread shelf shelf_after (name ∷ []) failed (Ok checked ≡ Err (why.Files stop.ReadFault)) (λ e. absurd cc) read,
  )

-- the version is the last one
pub asks-spent : {F : Type 0} (files : F → Option Files) (fetched : F → Option (List (List ℕ))) (unread : F → ℕ) (s : Stored) (name : List ℕ) (shelf : F) → s.version ≡ last_version
    → AsksSo files fetched unread s name shelf shelf (Err (why.Refused IsSpent))
asks-spent files fetched unread s name shelf spent = ([], Stopped (why.Refused IsSpent) (refl, (refl, spent)) refl, read-none files fetched unread shelf _ (λ e. cc))

-- ---- what is made of a script that was checked

-- what is carried out is the outcome of an accepted script
pub migrated-as : (st : State) (checked : Checked) (n : ℕ) (after : Stored) (reply : Reply) (now : State) (last : Schema) → outcome_data checked.outcome ≡ accepted n
    → IsApplied st.stored (script_of checked.script) after → reply ≡ Script (applied_text n after.version) → now.stored ≡ after → last ≡ last_schema checked → now.sessions ≡ map (moved_session last) st.sessions
    → IsMigrated st checked (record { reply = reply; state = now })
migrated-as st checked n after reply now last accepts applied text stored same sessions =
    let told : List Session = map (moved_session (last_schema checked)) st.sessions in
    let moved : now.sessions ≡ told = sessions ∙ ap (λ (z : Schema). map (moved_session z) st.sessions) same in
    Applies n after accepts applied
    (ap (λ (r : Reply). record { reply = r; state = now }) text
    ∙ ap (λ (z : Stored). record { reply = Script (applied_text n after.version); state = record { stored = z; sessions = now.sessions } }) stored
    ∙ ap (λ (l : List Session). record { reply = Script (applied_text n after.version); state = record { stored = after; sessions = l } }) moved)

-- the next version is a later one
pub later : (s after : Stored) → after.version ≡ s.version + 1 → s.version < after.version
later s after next = omega (arith, next)

-- why the store did not take it
pub keep-failed : (result : Result code.Reply DoorErr) (e : KeepErr) → result ≡ Err (err_of e) → (result ≡ Err StoreFault) ⊎ (result ≡ Err OutOfMemory)
keep-failed result keep.Failed is = inl is
keep-failed result keep.OutOfMemory is = inr is

pub keep-fault : (result : Result code.Reply DoorErr) (e : KeepErr) → result ≡ Err (err_of e) → result ≡ Err StoreFault → e ≡ keep.Failed
keep-fault result keep.Failed is fault = refl
keep-fault result keep.OutOfMemory is fault = absurd cc

-- ---- all of it

module _ {F K : Type 0} (files : F → Option Files) (fetched : F → Option (List (List ℕ))) (unread : F → ℕ) (content : K → Content) (kept : K → Option (List KeepCall)) (unkept : K → ℕ) (st : State) (name : List ℕ) (shelf shelf_after : F) where
  pub done-checked : (store store_after : K) (result : Result code.Reply DoorErr) (after : State) (checked : Checked) → AsksSo files fetched unread st.stored name shelf shelf_after (Ok checked)
      → (made : List KeepCall) × IsCarried (IsMigrated st checked) st made result after × IsKept kept unkept store store_after made (result ≡ Err StoreFault)
      → IsStored after.stored → content store_after ≡ replaced after.stored (content store) → (result ≡ Err ReadFault → ⊥)
      → Does files fetched unread content kept unkept (MigrationMayFetch st name) (IsMigration (files shelf) st name) st shelf shelf_after store store_after result after
  done-checked store store_after result after checked asks carried is_stored told not_read = record {
    calls = asks.0;
    made = carried.0;
    fetches = asks-fetch (files shelf) st name asks.0 (Ok checked) asks.1;
    ends = carried-ends (files shelf) st name asks.0 checked asks.1 carried.0 result after carried.1;
    read = read-as files fetched unread shelf shelf_after (flat_map fetched_by asks.0) _ (result ≡ Err ReadFault) (λ e. absurd (not_read e)) asks.2;
    kept_so = carried.2;
    told = told;
    stored = is_stored;
  }

  stopped-ends : (calls : List Call) (result : Result code.Reply DoorErr) (reason : StoreStop) → AsksScript (files shelf) st.stored name calls (Err reason)
      → IfOk result (λ (reply : code.Reply). (text : List ℕ) × IsStopText reason text × (reply_data reply ≡ Script text)) → Ends (IsMigration (files shelf) st name) st calls [] result st
  stopped-ends calls (Ok answer) reason asks (text, is_text, is) =
      (record { reply = Script text; state = st }, migrates-err (files shelf) st name calls reason text asks is_text, is, refl, Never refl refl)
  stopped-ends calls (Err e) reason asks replied = (refl, inl refl)

  pub done-stopped : (store : K) (result : Result code.Reply DoorErr) (reason : StoreStop) → AsksSo files fetched unread st.stored name shelf shelf_after (Err reason) → IsHeld (content store) st.stored
      → IfOk result (λ (reply : code.Reply). (text : List ℕ) × IsStopText reason text × (reply_data reply ≡ Script text)) → (result ≡ Err ReadFault → reason ≡ why.Files stop.ReadFault)
      → (result ≡ Err StoreFault → ⊥) → Does files fetched unread content kept unkept (MigrationMayFetch st name) (IsMigration (files shelf) st name) st shelf shelf_after store store result st
  done-stopped store result reason asks held replied read not_stored = record {
    calls = asks.0;
    made = [];
    fetches = asks-fetch (files shelf) st name asks.0 (Err reason) asks.1;
    ends = stopped-ends asks.0 result reason asks.1 replied;
    read = read-as files fetched unread shelf shelf_after (flat_map fetched_by asks.0) _ (result ≡ Err ReadFault) (λ e. ap (λ (z : StoreStop). Err z) (read e)) asks.2;
    kept_so = kept-none kept unkept store (result ≡ Err StoreFault) not_stored;
    told = held-stays (content store) st.stored held;
    stored = held.stored;
  }
