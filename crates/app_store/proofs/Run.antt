-- From stages and what is done with an answer to a run.
use Rattle.std.proofs.Common.{◌≡◌, ◌≢◌, ℕ, List, [], ◌∷◌, ◌++◌, refl, sym, ap, ◌∙◌, subst, append-nil, arith}
use Rattle.std.specs.Prelude.{Option, Result, Ok, Err}
use Rattle.std.specs.List.{flat_map}
use Rattle.std.proofs.lemmas.Grind.{flat_map-append}
use Rattle.app_files.specs.declared.answer.Checked.{Checked}
use Rattle.app_files.specs.declared.refusal.Refusal.{Refusal}
use Rattle.app_files.specs.declared.status.Status.{Status}
use Rattle.app_files.specs.declared.status.Status.TheVariants as exit
use Rattle.app_files.specs.declared.stop.Stop.TheVariants as stop
use Rattle.app_files.specs.Ends.{IsSilent}
use Rattle.app_files.specs.Stages.{Stops, Goes, Stopped, Went}
use Rattle.app_flow.specs.Files.{Files}
use Rattle.app_flow.specs.Outside.{IsRead, IsWritten}
use Rattle.app_flow.proofs.OutsideLemmas.{read-as}
use Rattle.store_keeper.specs.declared.keeper.KeepCall.{KeepCall}
use Rattle.store_keeper.specs.declared.keeper.KeepCall.TheVariants.{Load, Replace}
use Rattle.store_keeper.specs.Content.{Content, replaced}
use Rattle.store_keeper.specs.Stored as plain
use Rattle.app_store.specs.declared.answer.StoreAnswer.{StoreAnswer}
use Rattle.app_store.specs.declared.answer.StoreAnswer.TheVariants as answer
use Rattle.app_store.specs.declared.stop.StoreRefusal.{StoreRefusal}
use Rattle.app_store.specs.declared.stop.StoreStop.{StoreStop}
use Rattle.app_store.specs.declared.stop.StoreStop.TheVariants as why
use Rattle.app_store.specs.Answer.{IsDecision, Applies, Leaves, Runs, Shows, end_of}
use Rattle.app_store.specs.Calls.{Call, Keep, fetched_by, kept_by}
use Rattle.app_store.specs.Ends as ends
use Rattle.app_store.specs.Ends.{IsStoppedBy, Ends}
use Rattle.app_store.specs.Finished.{IsFinished, NoMemory, Said, Kept, Lost}
use Rattle.app_store.specs.Ran.{Ran}
use Rattle.app_store.specs.Run.{told_by, IsStoreRun}
use Rattle.app_store.specs.Store.{Loads, Holds}
use Rattle.app_store.specs.Told.{Told, IsKept}
use Rattle.app_store.specs.Words.{Command, Init, Check, Apply, Show}
use Rattle.app_store.proofs.Found.{init-found, check-found, apply-found, show-found}
use Rattle.app_store.proofs.Headline.{headline}
use Rattle.app_store.proofs.Ran.{kept-more, kept-as}

-- ---- answers

files-not-decided : (told : Told) (command : Command) (calls : List Call) (a : StoreAnswer) → Runs told command calls (Ok a) → ((r : Refusal) → a ≢ answer.FilesRefused r) × ((r : StoreRefusal) → a ≢ answer.Refused r)
files-not-decided told (Init spec base_name) calls a runs = let f = init-found told spec base_name calls a runs in let is = f.is in (λ r e. cc, λ r e. cc)
files-not-decided told (Check name) calls a runs = let f = check-found told name calls a runs in let is = f.is in (λ r e. cc, λ r e. cc)
files-not-decided told (Apply name) calls a runs = let f = apply-found told name calls a runs in go f.decided
  where
    go : {s : plain.Stored} {c : Checked} → IsDecision s c a → ((r : Refusal) → a ≢ answer.FilesRefused r) × ((r : StoreRefusal) → a ≢ answer.Refused r)
    go (Applies n now acc applied is) = (λ r e. cc, λ r e. cc)
    go (Leaves never is) = (λ r e. cc, λ r e. cc)
files-not-decided told Show calls a runs = let f = show-found told calls a runs in let is = f.is in (λ r e. cc, λ r e. cc)

-- what the stages pass on is an answer
pub passed-on : (told : Told) (command : Command) (calls : List Call) (a : StoreAnswer) → Runs told command calls (Ok a) → Runs told command calls (end_of a)
passed-on told command calls (answer.Initialised s) runs = runs
passed-on told command calls (answer.Checked c) runs = runs
passed-on told command calls (answer.Applied n s) runs = runs
passed-on told command calls (answer.Shown s) runs = runs
passed-on told command calls (answer.FilesRefused r) runs = absurd ((files-not-decided told command calls (answer.FilesRefused r) runs).0 r refl)
passed-on told command calls (answer.Refused r) runs = absurd ((files-not-decided told command calls (answer.Refused r) runs).1 r refl)

-- ---- `show` reads no file

no-names : (one : List Call) → one ≡ Keep Load ∷ [] → flat_map fetched_by one ≡ []
no-names one is = ap (flat_map fetched_by) is

show-names : (told : Told) (calls : List Call) (end : Result StoreAnswer StoreStop) → Shows told calls end → flat_map fetched_by calls ≡ []
show-names told calls end (Stopped s (one, p) e) = no-names calls one
show-names told calls end (Went s front later (one, p) (none, q) split) =
    ap (flat_map fetched_by) split ∙ ap (λ (z : List Call). flat_map fetched_by (front ++ z)) none ∙ ap (flat_map fetched_by) (append-nil front) ∙ no-names front one

show-reads-none : (told : Told) (calls : List Call) → Shows told calls (Err (why.Files stop.ReadFault)) → ⊥
show-reads-none told calls (Stopped s (one, Stops t p d) e) =
    let same : t ≡ why.Files stop.ReadFault = cc in
    subst (λ (z : StoreStop). Loads told.content (Err z)) same p
show-reads-none told calls (Stopped s (one, Goes held loads holds) e) =
    let same : s ≡ why.Files stop.ReadFault = cc in
    subst (λ (z : StoreStop). Holds held (Err z)) same holds
show-reads-none told calls (Went s front later (one, p) (none, q) split) = q

pub fetched-names : (told : Told) (command : Command) (calls : List Call) (end : Result StoreAnswer StoreStop) → Runs told command calls end → command ≡ Show → flat_map fetched_by calls ≡ []
fetched-names told (Init spec base_name) calls end runs e = absurd cc
fetched-names told (Check name) calls end runs e = absurd cc
fetched-names told (Apply name) calls end runs e = absurd cc
fetched-names told Show calls end runs e = show-names told calls end runs

pub never-read : (told : Told) (command : Command) (calls : List Call) → Runs told command calls (Err (why.Files stop.ReadFault)) → command ≡ Show → ⊥
never-read told (Init spec base_name) calls runs e = cc
never-read told (Check name) calls runs e = cc
never-read told (Apply name) calls runs e = cc
never-read told Show calls runs e = show-reads-none told calls runs

-- ---- ends

-- the calls with those of the store behind them
kept-behind : (asked : List Call) → flat_map kept_by (asked ++ Keep Replace ∷ []) ≡ flat_map kept_by asked ++ Replace ∷ []
kept-behind asked = flat_map-append kept_by asked (Keep Replace ∷ [])

fetched-behind : (asked : List Call) → flat_map fetched_by (asked ++ Keep Replace ∷ []) ≡ flat_map fetched_by asked
fetched-behind asked = flat_map-append fetched_by asked (Keep Replace ∷ []) ∙ append-nil (flat_map fetched_by asked)

module _ {F K W : Type 0} (files : F → Option Files) (fetched : F → Option (List (List ℕ))) (unread : F → ℕ) (content : K → Content) (kept : K → Option (List KeepCall)) (unkept : K → ℕ) (told : W → Option (List ℕ)) (unwritten : W → ℕ) where
  module _ (command : Command) (shelf shelf_after : F) (store mid store_after : K) (out out_after : W) (status : Status) where
    abbrev pub is_told : Told
    is_told = told_by (files shelf) (content store)

    -- how it ends, with the calls that were made
    with-ends : (calls : List Call) → Ends is_told command calls (content store_after) (told out) (told out_after) status
        → IsRead files fetched unread shelf shelf_after (flat_map fetched_by calls) (status ≡ exit.ReadFault) → IsKept kept unkept store store_after (flat_map kept_by calls) (status ≡ exit.StoreFault)
        → IsWritten unwritten out out_after (IsSilent status) (status ≡ exit.WriteFault) → (command ≡ Show → flat_map fetched_by calls ≡ []) → (command ≡ Show → status ≢ exit.ReadFault)
        → IsStoreRun files fetched unread content kept unkept told unwritten command shelf shelf_after store store_after out out_after status
    with-ends calls ended read kept_so written names not_read = record {
      calls = calls;
      ends = ended;
      headline = headline is_told (content store_after) (told out) (told out_after) status command calls ended;
      read = read;
      kept_so = kept_so;
      written = written;
      not_called = λ e. read.silent (names e);
      not_read = not_read;
    }

    -- the store was called once more
    one-more : (end : Result StoreAnswer StoreStop) (ran : Ran files fetched unread content kept unkept (Runs is_told command) (λ (a : StoreAnswer). a) shelf shelf_after store mid end) (made : List KeepCall)
        → made ≡ Replace ∷ [] → status ≢ exit.ReadFault → IsKept kept unkept mid store_after made (status ≡ exit.StoreFault)
        → IsRead files fetched unread shelf shelf_after (flat_map fetched_by (ran.calls ++ Keep Replace ∷ [])) (status ≡ exit.ReadFault)
        × IsKept kept unkept store store_after (flat_map kept_by (ran.calls ++ Keep Replace ∷ [])) (status ≡ exit.StoreFault)
    one-more end ran made is not_read h = (
      subst (λ (names : List (List ℕ)). IsRead files fetched unread shelf shelf_after names (status ≡ exit.ReadFault)) (sym (fetched-behind ran.calls))
          (read-as files fetched unread shelf shelf_after _ _ _ (λ e. absurd (not_read e)) ran.read),
      subst (λ (z : List KeepCall). IsKept kept unkept store store_after z (status ≡ exit.StoreFault)) (sym (kept-behind ran.calls))
          (kept-more kept unkept store mid store_after _ _ _ _ ran.kept_so (subst (λ (z : List KeepCall). IsKept kept unkept mid store_after z (status ≡ exit.StoreFault)) is h)),
    )

    -- it was not
    no-more : (end : Result StoreAnswer StoreStop) (ran : Ran files fetched unread content kept unkept (Runs is_told command) (λ (a : StoreAnswer). a) shelf shelf_after store mid end) (made : List KeepCall)
        → made ≡ [] → status ≢ exit.ReadFault → IsKept kept unkept mid store_after made (status ≡ exit.StoreFault)
        → IsRead files fetched unread shelf shelf_after (flat_map fetched_by ran.calls) (status ≡ exit.ReadFault) × IsKept kept unkept store store_after (flat_map kept_by ran.calls) (status ≡ exit.StoreFault)
    no-more end ran made is not_read h = (
      read-as files fetched unread shelf shelf_after _ _ _ (λ e. absurd (not_read e)) ran.read,
      subst (λ (z : List KeepCall). IsKept kept unkept store store_after z (status ≡ exit.StoreFault)) (append-nil (flat_map kept_by ran.calls))
          (kept-more kept unkept store mid store_after _ _ _ _ ran.kept_so (subst (λ (z : List KeepCall). IsKept kept unkept mid store_after z (status ≡ exit.StoreFault)) is h)),
    )

    -- a stage that ends so, and what was done with the answer
    pub run-of : (end : Result StoreAnswer StoreStop) (ran : Ran files fetched unread content kept unkept (Runs is_told command) (λ (a : StoreAnswer). a) shelf shelf_after store mid end) (a : StoreAnswer)
        → Runs is_told command ran.calls (end_of a) → (made : List KeepCall) → IsFinished a (content mid) (content store_after) made (told out) (told out_after) status
        → IsKept kept unkept mid store_after made (status ≡ exit.StoreFault) → IsWritten unwritten out out_after (IsSilent status) (status ≡ exit.WriteFault) → status ≢ exit.ReadFault
        → IsStoreRun files fetched unread content kept unkept told unwritten command shelf shelf_after store store_after out out_after status
    run-of end ran a runs made (NoMemory e none same) h written not_read =
        let more = no-more end ran made none not_read h in
        with-ends ran.calls (ends.NoReport a runs e (same ∙ ran.same)) more.0 more.1 written (fetched-names is_told command ran.calls (end_of a) runs) (λ c. not_read)
    run-of end ran a runs made (Said nothing none same put) h written not_read =
        let more = no-more end ran made none not_read h in
        with-ends ran.calls (ends.Reported (record { answer = a; is_answer = runs; nothing_to_store = nothing; kept = same ∙ ran.same; reported = put })) more.0 more.1 written
        (fetched-names is_told command ran.calls (end_of a) runs) (λ c. not_read)
    run-of end ran a runs made (Kept s some one holds put) h written not_read =
        let more = one-more end ran made one not_read h in
        with-ends (ran.calls ++ Keep Replace ∷ [])
        (ends.Stored (record { answer = a; stored = s; asked = ran.calls; is_answer = runs; to_store = some; called = refl }) (holds ∙ ap (replaced s) ran.same) put) more.0 more.1 written
        (λ c. fetched-behind ran.calls ∙ fetched-names is_told command ran.calls (end_of a) runs c) (λ c. not_read)
    run-of end ran a runs made (Lost s some one same fault) h written not_read =
        let more = one-more end ran made one not_read h in
        with-ends (ran.calls ++ Keep Replace ∷ [])
        (ends.Unstored (record { answer = a; stored = s; asked = ran.calls; is_answer = runs; to_store = some; called = refl }) fault (same ∙ ran.same)) more.0 more.1 written
        (λ c. fetched-behind ran.calls ∙ fetched-names is_told command ran.calls (end_of a) runs c) (λ c. not_read)

  -- a fault or want of memory stopped the stages
  pub stopped-run : (command : Command) (shelf shelf_after : F) (store store_after : K) (out : W) (status : Status) (s : StoreStop)
      (ran : Ran files fetched unread content kept unkept (Runs (told_by (files shelf) (content store)) command) (λ (a : StoreAnswer). a) shelf shelf_after store store_after (Err s))
      → IsStoppedBy s status → (status ≡ exit.ReadFault → s ≡ why.Files stop.ReadFault) → (status ≡ exit.StoreFault → s ≡ why.StoreFault) → status ≢ exit.WriteFault
      → IsStoreRun files fetched unread content kept unkept told unwritten command shelf shelf_after store store_after out out status
  stopped-run command shelf shelf_after store store_after out status s ran is read kept_so never =
      with-ends command shelf shelf_after store store store_after out out status ran.calls (ends.Stopped s ran.came is ran.same)
      (read-as files fetched unread shelf shelf_after _ _ _ (λ e. ap (λ (z : StoreStop). Err z) (read e)) ran.read)
      (kept-as kept unkept store store_after _ _ _ (λ e. ap (λ (z : StoreStop). Err z) (kept_so e)) ran.kept_so)
      (record { kept = λ silent. refl; counted = λ e. absurd (never e); never_falls = omega arith })
      (fetched-names (told_by (files shelf) (content store)) command ran.calls (Err s) ran.came)
      (λ c e. never-read (told_by (files shelf) (content store)) command ran.calls
      (subst (λ (z : StoreStop). Runs (told_by (files shelf) (content store)) command ran.calls (Err z)) (read e) ran.came) c)
