-- Where files and a store are told, what a command comes to.
use Rattle.std.proofs.Common.{◌≡◌, ◌≢◌, ◌<◌, ◌⊎◌, inl, inr, ℕ, List, sym, ap, ◌∙◌, subst, arith}
use Rattle.std.specs.Prelude.{Option, Some, None, IsTrue, is_some, IfSome, Ok, Err}
use Rattle.app_flow.specs.Files.{Files}
use Rattle.app_files.specs.declared.answer.Checked.{Checked}
use Rattle.app_files.specs.declared.refusal.Refusal.{Refusal}
use Rattle.app_files.specs.declared.status.Status.{Status}
use Rattle.app_files.specs.declared.status.Status.TheVariants as exit
use Rattle.app_files.specs.declared.stop.Stop.{Stop}
use Rattle.app_files.specs.declared.stop.Stop.TheVariants as stop
use Rattle.app_files.specs.Answer.{ScriptOf, Checks, outcome_status}
use Rattle.app_files.specs.Ends.{IsReported, Whole, Cut}
use Rattle.app_files.specs.Headline.{Verdict}
use Rattle.app_files.specs.Loads.{Fetches}
use Rattle.app_files.specs.Stages.{Then, Stops, Goes, Stopped, Went}
use Rattle.app_files.proofs.OneStatus.{file-script-one}
use Rattle.check_scripts.specs.Outcomes.{Outcome, accepted, leak, undecided, too_large}
use Rattle.check_scripts.specs.Sound.{IsDecidable}
use Rattle.check_scripts.specs.Views.{outcome_data}
use Rattle.type_schema.specs.Schema.{Schema}
use Rattle.type_schema.specs.Script.{Script}
use Rattle.type_schema.specs.SchemaViews.{script_of}
use Rattle.store_keeper.specs.declared.stored.Stored as code
use Rattle.store_keeper.specs.Content.{Content}
use Rattle.store_keeper.specs.Stored as plain
use Rattle.store_keeper.specs.Stored.{last_version}
use Rattle.app_store.specs.declared.answer.StoreAnswer.{StoreAnswer}
use Rattle.app_store.specs.declared.answer.StoreAnswer.TheVariants as answer
use Rattle.app_store.specs.declared.stop.StoreRefusal.{StoreRefusal}
use Rattle.app_store.specs.declared.stop.StoreStop.{StoreStop}
use Rattle.app_store.specs.declared.stop.StoreStop.TheVariants as why
use Rattle.app_store.specs.Answer.{IsDecision, Applies, Leaves, AsksHeld, AsksRising, ChecksScript, ChecksHeld, AppliesScript, Shows, Runs, end_of, stored_by, status_of, text_of}
use Rattle.app_store.specs.Calls.{Call}
use Rattle.app_store.specs.Ends as ends
use Rattle.app_store.specs.Ends.{IsStoppedBy, Ends}
use Rattle.app_store.specs.Headline.{IsHeld, IsAskedOf, IsFaulty, IsSettledBy, Accepts, Leaks, Faults}
use Rattle.app_store.specs.Store.{Loads, Holds}
use Rattle.app_store.specs.Told.{Told}
use Rattle.app_store.specs.Words.{Check, Apply, Show}
use Rattle.app_store.proofs.Found.{IsFoundOver, check-found, IsApply, apply-found, held-of, rising-of, show-found}

-- ---- stages that do not refuse

-- a file that is a script over the schema is not refused
not-refused : (told : Told) (name : List ℕ) (s : Schema) (t : Script) → IsTrue (is_some told.files) → Then (Fetches told.files name) (ScriptOf name s) (Ok t) → (r : Refusal)
    → Then (Fetches told.files name) (ScriptOf name s) (Err (stop.Refused r)) → ⊥
not-refused told name s t some asked r refused = go told.files some asked refused
  where
    go : (files : Option Files) → IsTrue (is_some files) → Then (Fetches files name) (ScriptOf name s) (Ok t) → Then (Fetches files name) (ScriptOf name s) (Err (stop.Refused r)) → ⊥
    go None lacks one two = absurd cc
    go (Some files) has one two = let differ = file-script-one files name s (Ok t) (Err (stop.Refused r)) tt tt one two in cc

-- and is one script
one-script : (told : Told) (name : List ℕ) (s : Schema) (t u : Script) → IsTrue (is_some told.files) → Then (Fetches told.files name) (ScriptOf name s) (Ok t)
    → Then (Fetches told.files name) (ScriptOf name s) (Ok u) → u ≡ t
one-script told name s t u some asked other = go told.files some asked other
  where
    go : (files : Option Files) → IsTrue (is_some files) → Then (Fetches files name) (ScriptOf name s) (Ok t) → Then (Fetches files name) (ScriptOf name s) (Ok u) → u ≡ t
    go None lacks one two = absurd cc
    go (Some files) has one two = let same = file-script-one files name s (Ok u) (Ok t) tt tt two one in cc

-- where the outcome is a decision, the status is that of it
settled : (t : Script) (o : Outcome) (status : Status) → IsDecidable t → Verdict t o → status ≡ outcome_status o → IsSettledBy t status
settled t (accepted n) status decidable v e = Accepts e v.0
settled t (leak w) status decidable v e = Leaks e v.2
settled t (undecided duty cycle) status decidable v e = absurd (v decidable)
settled t (too_large duty terms nodes) status decidable v e = absurd (v decidable)

-- ---- the store

module _ (told : Told) (s : plain.Stored) (is : told.content ≡ Some (Some s)) where
  same-held : (u : plain.Stored) → IsHeld told.content u → u ≡ s
  same-held u held = let told_so = subst (λ (c : Content). IfSome c (λ h. h ≡ Some u)) is held.told in cc

  some-held : (held : Option plain.Stored) → IfSome told.content (λ t. t ≡ held) → held ≡ None → ⊥
  some-held held loads none = let told_so = subst (λ (c : Content). IfSome c (λ h. h ≡ held)) is loads in cc

  -- the store is not refused, and asks no file
  held-so : (calls : List Call) (r : StoreRefusal) → AsksHeld told calls (Err (why.Refused r)) → ⊥
  held-so calls r (one, Stops w p e) =
      let same : w ≡ why.Refused r = cc in
      subst (λ (z : StoreStop). Loads told.content (Err z)) same p
  held-so calls r (one, Goes held loads (refusal, none)) = some-held held loads.0 none

  held-no-file : (calls : List Call) (r : Refusal) → AsksHeld told calls (Err (why.Files (stop.Refused r))) → ⊥
  held-no-file calls r (one, Stops w p e) =
      let same : w ≡ why.Files (stop.Refused r) = cc in
      subst (λ (z : StoreStop). Loads told.content (Err z)) same p
  held-no-file calls r (one, Goes held loads never) = never

  rising-so : s.version < last_version → (calls : List Call) (r : StoreRefusal) → AsksRising told calls (Err (why.Refused r)) → ⊥
  rising-so less calls r (one, Stops w p e) =
      let same : w ≡ why.Refused r = cc in
      held-so calls r (one, subst (λ (z : StoreStop). Then (Loads told.content) Holds (Err z)) same p)
  rising-so less calls r (one, Goes u p (refusal, spent)) =
      let same = same-held u (held-of told calls u (one, p)) in
      let version = ap (λ (z : plain.Stored). z.version) same in
      omega (arith, less, spent, version)

  rising-no-file : (calls : List Call) (r : Refusal) → AsksRising told calls (Err (why.Files (stop.Refused r))) → ⊥
  rising-no-file calls r (one, Stops w p e) =
      let same : w ≡ why.Files (stop.Refused r) = cc in
      held-no-file calls r (one, subst (λ (z : StoreStop). Then (Loads told.content) Holds (Err z)) same p)
  rising-no-file calls r (one, Goes u p never) = never

-- a script that is checked refuses nothing of the store
script-no-store : (told : Told) (name : List ℕ) (s : Schema) (calls : List Call) (r : StoreRefusal) → ChecksScript told name s calls (Err (why.Refused r)) → ⊥
script-no-store told name s calls r (one, (x, is, p)) = cc

script-refused : (told : Told) (name : List ℕ) (s : Schema) (t : Script) → IsTrue (is_some told.files) → Then (Fetches told.files name) (ScriptOf name s) (Ok t) → (calls : List Call) (r : Refusal)
    → ChecksScript told name s calls (Err (why.Files (stop.Refused r))) → ⊥
script-refused told name s t some asked calls r (one, (x, is, Stops w p e)) =
    let same : w ≡ stop.Refused r = cc in
    not-refused told name s t some asked r (subst (λ (z : Stop). Then (Fetches told.files name) (ScriptOf name s) (Err z)) same p)
script-refused told name s t some asked calls r (one, (x, is, Goes u p h)) =
    let same : x ≡ stop.Refused r = cc in
    subst (λ (z : Stop). Checks u (Err z)) same h

-- ---- scripts over what is stored

faulty-so : (t : Script) (status : Status) → (status ≡ exit.StoreFault) ⊎ (status ≡ exit.OutOfMemory) → IsSettledBy t status
faulty-so t status (inl e) = Faults (inr (inr (inl e)))
faulty-so t status (inr e) = Faults (inr (inr (inr e)))

pub stopped-faulty : (s : StoreStop) (status : Status) → IsStoppedBy s status → IsFaulty status
stopped-faulty (why.Files (stop.Refused r)) status e = absurd e
stopped-faulty (why.Files stop.ReadFault) status e = inl e
stopped-faulty (why.Files stop.OutOfMemory) status e = inr (inr (inr e))
stopped-faulty (why.Refused r) status e = absurd e
stopped-faulty why.StoreFault status e = inr (inr (inl e))

module _ (told : Told) (name : List ℕ) (s : plain.Stored) (t : Script) (asked : IsAskedOf told name s t) (decidable : IsDecidable t) (content : Content) (before after : Option (List ℕ)) (status : Status) where
  -- what was found of the script over what is stored is found of this script
  found-so : (u : plain.Stored) (c : Checked) → u ≡ s → IsFoundOver told name u.schema c → Verdict t (outcome_data c.outcome)
  found-so u c same found =
      let over : IsFoundOver told name s.schema c = subst (λ (z : plain.Stored). IsFoundOver told name z.schema c) same found in
      subst (λ (z : Script). Verdict z (outcome_data c.outcome)) (one-script told name s.schema t (script_of c.script) asked.tells asked.script over.script) over.says

  -- ---- `check SCRIPT`

  check-refused : (calls : List Call) (r : StoreRefusal) → ChecksHeld told name calls (Err (why.Refused r)) → ⊥
  check-refused calls r (Stopped w p e) =
      let same : w ≡ why.Refused r = cc in
      held-so told s asked.held calls r (subst (λ (z : StoreStop). AsksHeld told calls (Err z)) same p)
  check-refused calls r (Went u front later p q split) = script-no-store told name u.schema later r q

  check-no-file : (calls : List Call) (r : Refusal) → ChecksHeld told name calls (Err (why.Files (stop.Refused r))) → ⊥
  check-no-file calls r (Stopped w p e) =
      let same : w ≡ why.Files (stop.Refused r) = cc in
      held-no-file told s asked.held calls r (subst (λ (z : StoreStop). AsksHeld told calls (Err z)) same p)
  check-no-file calls r (Went u front later p q split) =
      let same = same-held told s asked.held u (held-of told front u p) in
      script-refused told name s.schema t asked.tells asked.script later r (subst (λ (z : plain.Stored). ChecksScript told name z.schema later (Err (why.Files (stop.Refused r)))) same q)

  check-whole : (a : StoreAnswer) (calls : List Call) → ChecksHeld told name calls (end_of a) → stored_by a ≡ None → status ≡ status_of a → IsSettledBy t status
  check-whole (answer.Initialised x) calls runs none e = absurd cc
  check-whole (answer.Applied n x) calls runs none e = absurd cc
  check-whole (answer.Shown x) calls runs none e = absurd (let f = check-found told name calls (answer.Shown x) runs in let is = f.is in cc)
  check-whole (answer.Checked c) calls runs none e =
      let f = check-found told name calls (answer.Checked c) runs in
      let same : c ≡ f.checked = let is = f.is in cc in
      let v = found-so f.held f.checked (same-held told s asked.held f.held f.is_held) f.found in
      settled t (outcome_data c.outcome) status decidable (subst (λ (z : Checked). Verdict t (outcome_data z.outcome)) (sym same) v) e
  check-whole (answer.FilesRefused r) calls runs none e = absurd (check-no-file calls r runs)
  check-whole (answer.Refused r) calls runs none e = absurd (check-refused calls r runs)

  check-reported : (a : StoreAnswer) (calls : List Call) → ChecksHeld told name calls (end_of a) → stored_by a ≡ None → IsReported (text_of a) (status_of a) before after status → IsSettledBy t status
  check-reported a calls runs none (Whole e put) = check-whole a calls runs none e
  check-reported a calls runs none (Cut e front) = Faults (inr (inl e))

  pub check-decided : (calls : List Call) → Ends told (Check name) calls content before after status → ((a : StoreAnswer) (asked : List Call) (u : plain.Stored) → Runs told (Check name) asked (end_of a) → stored_by a ≡ Some u → ⊥) → IsSettledBy t status
  check-decided calls (ends.Reported r) never = check-reported r.answer calls r.is_answer r.nothing_to_store r.reported
  check-decided calls (ends.Stored u holds put) never = absurd (never u.answer u.asked u.stored u.is_answer u.to_store)
  check-decided calls (ends.Unstored u fault kept) never = faulty-so t status fault
  check-decided calls (ends.NoReport a runs e kept) never = faulty-so t status (inr e)
  check-decided calls (ends.Stopped w runs e kept) never = Faults (stopped-faulty w status e)

  -- ---- `apply SCRIPT`

  module _ (rises : s.version < last_version) where
    apply-refused : (calls : List Call) (r : StoreRefusal) → AppliesScript told name calls (Err (why.Refused r)) → ⊥
    apply-refused calls r (Stopped w p e) =
        let same : w ≡ why.Refused r = cc in
        rising-so told s asked.held rises calls r (subst (λ (z : StoreStop). AsksRising told calls (Err z)) same p)
    apply-refused calls r (Went u front later p (Stopped w q e) split) =
        let same : w ≡ why.Refused r = cc in
        script-no-store told name u.schema later r (subst (λ (z : StoreStop). ChecksScript told name u.schema later (Err z)) same q)
    apply-refused calls r (Went u front later p (Went c front2 later2 q (none, never) split2) split) = never

    apply-no-file : (calls : List Call) (r : Refusal) → AppliesScript told name calls (Err (why.Files (stop.Refused r))) → ⊥
    apply-no-file calls r (Stopped w p e) =
        let same : w ≡ why.Files (stop.Refused r) = cc in
        rising-no-file told s asked.held calls r (subst (λ (z : StoreStop). AsksRising told calls (Err z)) same p)
    apply-no-file calls r (Went u front later p (Stopped w q e) split) =
        let same : w ≡ why.Files (stop.Refused r) = cc in
        let one = same-held told s asked.held u (rising-of told front u p).0 in
        script-refused told name s.schema t asked.tells asked.script later r
        (subst (λ (z : plain.Stored). ChecksScript told name z.schema later (Err (why.Files (stop.Refused r)))) one
        (subst (λ (z : StoreStop). ChecksScript told name u.schema later (Err z)) same q))
    apply-no-file calls r (Went u front later p (Went c front2 later2 q (none, never) split2) split) = never

    -- what was found of the script is found of this one
    apply-says : (a : StoreAnswer) (f : IsApply told name a) → Verdict t (outcome_data f.checked.outcome)
    apply-says a f = found-so f.held f.checked (same-held told s asked.held f.held f.is_held) f.found

    left-so : (held : plain.Stored) (c d : Checked) → IsDecision held c (answer.Checked d) → Verdict t (outcome_data c.outcome) → status ≡ outcome_status (outcome_data d.outcome) → IsSettledBy t status
    left-so held c d (Applies n now acc applied is) v e = absurd cc
    left-so held c d (Leaves never is) v e =
        let same : d ≡ c = cc in
        settled t (outcome_data c.outcome) status decidable v (e ∙ ap (λ (z : Checked). outcome_status (outcome_data z.outcome)) same)

    not-shown : (held : plain.Stored) (c : Checked) (a : StoreAnswer) → IsDecision held c a → ((n : ℕ) (now : code.Stored) → a ≢ answer.Applied n now) → ((d : Checked) → a ≢ answer.Checked d) → ⊥
    not-shown held c a (Applies n now acc applied is) unlike never = unlike n now is
    not-shown held c a (Leaves other is) unlike never = never c is

    apply-whole : (a : StoreAnswer) (calls : List Call) → AppliesScript told name calls (end_of a) → stored_by a ≡ None → status ≡ status_of a → IsSettledBy t status
    apply-whole (answer.Initialised x) calls runs none e = absurd cc
    apply-whole (answer.Applied n x) calls runs none e = absurd cc
    apply-whole (answer.Shown x) calls runs none e =
        let f = apply-found told name calls (answer.Shown x) runs in
        absurd (not-shown f.held f.checked (answer.Shown x) f.decided (λ n now same. cc) (λ d same. cc))
    apply-whole (answer.Checked c) calls runs none e =
        let f = apply-found told name calls (answer.Checked c) runs in
        left-so f.held f.checked c f.decided (apply-says (answer.Checked c) f) e
    apply-whole (answer.FilesRefused r) calls runs none e = absurd (apply-no-file calls r runs)
    apply-whole (answer.Refused r) calls runs none e = absurd (apply-refused calls r runs)

    apply-reported : (a : StoreAnswer) (calls : List Call) → AppliesScript told name calls (end_of a) → stored_by a ≡ None → IsReported (text_of a) (status_of a) before after status → IsSettledBy t status
    apply-reported a calls runs none (Whole e put) = apply-whole a calls runs none e
    apply-reported a calls runs none (Cut e front) = Faults (inr (inl e))

    -- what is stored was accepted
    accepted-so : (held : plain.Stored) (c : Checked) (a : StoreAnswer) (u : plain.Stored) → IsDecision held c a → stored_by a ≡ Some u → Verdict t (outcome_data c.outcome) → status ≡ exit.Done → IsSettledBy t status
    accepted-so held c a u (Applies n now acc applied is) some v e = settled t (outcome_data c.outcome) status decidable v (e ∙ ap outcome_status (sym acc))
    accepted-so held c a u (Leaves never is) some v e = absurd (let by : None ≡ Some u = sym (ap stored_by is) ∙ some in cc)

    apply-stored : (a : StoreAnswer) (u : plain.Stored) → IsApply told name a → stored_by a ≡ Some u → status_of a ≡ exit.Done → IsReported (text_of a) (status_of a) before after status → IsSettledBy t status
    apply-stored a u f some done (Whole e put) = accepted-so f.held f.checked a u f.decided some (apply-says a f) (e ∙ done)
    apply-stored a u f some done (Cut e front) = Faults (inr (inl e))

    pub apply-decided : (calls : List Call) → Ends told (Apply name) calls content before after status
        → ((a : StoreAnswer) (asked : List Call) (u : plain.Stored) → Runs told (Apply name) asked (end_of a) → stored_by a ≡ Some u → IsApply told name a × (status_of a ≡ exit.Done)) → IsSettledBy t status
    apply-decided calls (ends.Reported r) found = apply-reported r.answer calls r.is_answer r.nothing_to_store r.reported
    apply-decided calls (ends.Stored u holds put) found =
        let f = found u.answer u.asked u.stored u.is_answer u.to_store in
        apply-stored u.answer u.stored f.0 u.to_store f.1 put
    apply-decided calls (ends.Unstored u fault kept) found = faulty-so t status fault
    apply-decided calls (ends.NoReport a runs e kept) found = faulty-so t status (inr e)
    apply-decided calls (ends.Stopped w runs e kept) found = Faults (stopped-faulty w status e)

-- ---- `show`

module _ (told : Told) (s : plain.Stored) (is : told.content ≡ Some (Some s)) (content : Content) (before after : Option (List ℕ)) (status : Status) where
  show-refused : (calls : List Call) (r : StoreRefusal) → Shows told calls (Err (why.Refused r)) → ⊥
  show-refused calls r (Stopped w p e) =
      let same : w ≡ why.Refused r = cc in
      held-so told s is calls r (subst (λ (z : StoreStop). AsksHeld told calls (Err z)) same p)
  show-refused calls r (Went u front later p (none, never) split) = never

  show-no-file : (calls : List Call) (r : Refusal) → Shows told calls (Err (why.Files (stop.Refused r))) → ⊥
  show-no-file calls r (Stopped w p e) =
      let same : w ≡ why.Files (stop.Refused r) = cc in
      held-no-file told s is calls r (subst (λ (z : StoreStop). AsksHeld told calls (Err z)) same p)
  show-no-file calls r (Went u front later p (none, never) split) = never

  show-whole : (a : StoreAnswer) (calls : List Call) → Shows told calls (end_of a) → stored_by a ≡ None → status ≡ status_of a → status ≡ exit.Done
  show-whole (answer.Initialised x) calls runs none e = e
  show-whole (answer.Applied n x) calls runs none e = e
  show-whole (answer.Shown x) calls runs none e = e
  show-whole (answer.Checked c) calls runs none e = absurd (let f = show-found told calls (answer.Checked c) runs in let of_show = f.is in cc)
  show-whole (answer.FilesRefused r) calls runs none e = absurd (show-no-file calls r runs)
  show-whole (answer.Refused r) calls runs none e = absurd (show-refused calls r runs)

  show-reported : (a : StoreAnswer) (calls : List Call) → Shows told calls (end_of a) → stored_by a ≡ None → IsReported (text_of a) (status_of a) before after status → (status ≡ exit.Done) ⊎ IsFaulty status
  show-reported a calls runs none (Whole e put) = inl (show-whole a calls runs none e)
  show-reported a calls runs none (Cut e front) = inr (inr (inl e))

  pub show-decided : (calls : List Call) → Ends told Show calls content before after status → ((a : StoreAnswer) (asked : List Call) (u : plain.Stored) → Runs told Show asked (end_of a) → stored_by a ≡ Some u → ⊥) → (status ≡ exit.Done) ⊎ IsFaulty status
  show-decided calls (ends.Reported r) never = show-reported r.answer calls r.is_answer r.nothing_to_store r.reported
  show-decided calls (ends.Stored u holds put) never = absurd (never u.answer u.asked u.stored u.is_answer u.to_store)
  show-decided calls (ends.Unstored u fault kept) never = absurd (never u.answer u.asked u.stored u.is_answer u.to_store)
  show-decided calls (ends.NoReport a runs e kept) never = inr (inr (inr (inr e)))
  show-decided calls (ends.Stopped w runs e kept) never = inr (stopped-faulty w status e)
