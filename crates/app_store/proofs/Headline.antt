-- What the end of a command over the store says.
use Rattle.std.proofs.Common.{◌≡◌, ◌≢◌, ◌<◌, ◌⊎◌, inl, inr, ℕ, List, refl, sym, ap, ◌∙◌, subst}
use Rattle.std.specs.Prelude.{Option, Some, None}
use Rattle.app_flow.specs.Told.{Appends}
use Rattle.app_files.specs.declared.answer.Checked.{Checked}
use Rattle.app_files.specs.declared.refusal.Refusal.{Refusal}
use Rattle.app_files.specs.declared.refusal.Refusal.TheVariants as refusal
use Rattle.app_files.specs.declared.status.Status.{Status}
use Rattle.app_files.specs.declared.status.Status.TheVariants as exit
use Rattle.app_files.specs.declared.stop.Stop.TheVariants as stop
use Rattle.app_files.specs.Answer.{refusal_status, outcome_status, outcome_text, checked_text}
use Rattle.app_files.specs.Ends.{IsReported, Whole, Cut}
use Rattle.app_files.specs.Headline.{Verdict, ShowsLeak}
use Rattle.check_scripts.specs.Outcomes.{Outcome, accepted, leak, undecided, too_large}
use Rattle.check_scripts.specs.Views.{outcome_data}
use Rattle.check_scripts.specs.Sound.{IsDecidable}
use Rattle.data_meaning.specs.Database.{Database}
use Rattle.data_meaning.specs.Secure.{IsSecure, IsStepSecure}
use Rattle.type_schema.specs.Schema.{Schema}
use Rattle.type_schema.specs.Script.{Script}
use Rattle.type_schema.specs.SchemaViews.{script_of}
use Rattle.store_keeper.specs.Content.{Content, replaced}
use Rattle.store_keeper.specs.declared.stored.Stored as code
use Rattle.store_keeper.specs.Stored as plain
use Rattle.store_keeper.specs.Stored.{stored_of, last_version}
use Rattle.store_apply.specs.Applied.{IsApplied}
use Rattle.app_store.specs.declared.answer.StoreAnswer.{StoreAnswer}
use Rattle.app_store.specs.declared.answer.StoreAnswer.TheVariants as answer
use Rattle.app_store.specs.declared.stop.StoreRefusal.{StoreRefusal}
use Rattle.app_store.specs.declared.stop.StoreRefusal.TheVariants as why
use Rattle.app_store.specs.declared.stop.StoreStop.{StoreStop}
use Rattle.app_store.specs.declared.stop.StoreStop.TheVariants as store
use Rattle.app_store.specs.Answer.{IsDecision, Applies, Leaves, Runs, end_of, stored_by, store_refusal_status, status_of, text_of}
use Rattle.app_store.specs.Calls.{Call}
use Rattle.app_store.specs.Ends.{IsStoppedBy, Ends, Reported, Stored, Unstored, NoReport, Stopped}
use Rattle.app_store.specs.Headline.{IsHeld, AsksOver, IsAskedOf, IsFaulty, IsSettledBy, IsInitAsked, CheckHeadline, IsCarriedOut, ApplyHeadline, IsInitialised, InitHeadline, ShowHeadline, StoreHeadline}
use Rattle.app_store.specs.Told.{Told}
use Rattle.app_store.specs.Words.{Command, Init, Check, Apply, Show}
use Rattle.app_store.proofs.Decided.{check-decided, apply-decided, show-decided}
use Rattle.app_store.proofs.InitDecided.{init-decided}
use Rattle.app_store.proofs.Found.{IsFoundOver, IsInit, init-found, IsCheck, check-found, IsApply, apply-found, show-found}

-- ---- statuses

refused-not-done : (r : Refusal) → refusal_status r ≢ exit.Done
refused-not-done refusal.Usage e = cc
refused-not-done (refusal.Missing name) e = cc
refused-not-done (refusal.TooLong name) e = cc
refused-not-done (refusal.Text name err) e = cc
refused-not-done (refusal.SpecTypes name err) e = cc
refused-not-done (refusal.ScriptTypes name fault) e = cc

refused-not-leak : (r : Refusal) → refusal_status r ≢ exit.Leak
refused-not-leak refusal.Usage e = cc
refused-not-leak (refusal.Missing name) e = cc
refused-not-leak (refusal.TooLong name) e = cc
refused-not-leak (refusal.Text name err) e = cc
refused-not-leak (refusal.SpecTypes name err) e = cc
refused-not-leak (refusal.ScriptTypes name fault) e = cc

store-not-done : (r : StoreRefusal) → store_refusal_status r ≢ exit.Done
store-not-done why.IsSet e = cc
store-not-done why.IsEmpty e = cc
store-not-done why.IsSpent e = cc
store-not-done (why.Data name err) e = cc

store-not-leak : (r : StoreRefusal) → store_refusal_status r ≢ exit.Leak
store-not-leak why.IsSet e = cc
store-not-leak why.IsEmpty e = cc
store-not-leak why.IsSpent e = cc
store-not-leak (why.Data name err) e = cc

-- a run that a fault or want of memory ended is neither done nor leaks
faulty : (status : Status) → (status ≡ exit.StoreFault) ⊎ (status ≡ exit.OutOfMemory) → (status ≢ exit.Done) × (status ≢ exit.Leak) × (status ≢ exit.WriteFault)
faulty status (inl e) = (λ d. cc, λ d. cc, λ d. cc)
faulty status (inr e) = (λ d. cc, λ d. cc, λ d. cc)

stopped-so : (s : StoreStop) (status : Status) → IsStoppedBy s status → (status ≢ exit.Done) × (status ≢ exit.Leak) × (status ≢ exit.WriteFault)
stopped-so (store.Files (stop.Refused r)) status e = absurd e
stopped-so (store.Files stop.ReadFault) status e = (λ d. cc, λ d. cc, λ d. cc)
stopped-so (store.Files stop.OutOfMemory) status e = faulty status (inr e)
stopped-so (store.Refused r) status e = absurd e
stopped-so store.StoreFault status e = faulty status (inl e)

-- ---- outcomes

-- a status that is done comes of acceptance, and that of a leak of a leak
done-accepted : (o : Outcome) → outcome_status o ≡ exit.Done → (n : ℕ) × (o ≡ accepted n)
done-accepted (accepted n) e = (n, refl)
done-accepted (leak w) e = absurd cc
done-accepted (undecided duty cycle) e = absurd cc
done-accepted (too_large duty terms nodes) e = absurd cc

leak-shown : (t : Script) (o : Outcome) (before after : Option (List ℕ)) → Verdict t o → outcome_status o ≡ exit.Leak → Appends before after (outcome_text t o) → ShowsLeak t before after
leak-shown t (accepted n) before after v e put = absurd cc
leak-shown t (leak w) before after v e put = record { witness = w; tables = v.0; real = v.1; shown = put }
leak-shown t (undecided duty cycle) before after v e put = absurd cc
leak-shown t (too_large duty terms nodes) before after v e put = absurd cc

accepted-secure : (t : Script) (o : Outcome) (n : ℕ) → Verdict t o → o ≡ accepted n → IsStepSecure t × IsSecure t
accepted-secure t (accepted m) n v e = v
accepted-secure t (leak w) n v e = absurd cc
accepted-secure t (undecided duty cycle) n v e = absurd cc
accepted-secure t (too_large duty terms nodes) n v e = absurd cc

-- ---- what is decided of a script

-- only what is done is stored
pub stores-done : (a : StoreAnswer) (s : plain.Stored) → stored_by a ≡ Some s → status_of a ≡ exit.Done
stores-done (answer.Initialised x) s some = refl
stores-done (answer.Checked c) s some = absurd cc
stores-done (answer.Applied n x) s some = refl
stores-done (answer.Shown x) s some = absurd cc
stores-done (answer.FilesRefused r) s some = absurd cc
stores-done (answer.Refused r) s some = absurd cc

shows-none : (held : plain.Stored) (c : Checked) (x : code.Stored) → IsDecision held c (answer.Shown x) → ⊥
shows-none held c x (Applies n now is applied same) = cc
shows-none held c x (Leaves never same) = cc

-- what is stored is what the script makes
pub record IsToApply (held : plain.Stored) (c : Checked) (s : plain.Stored) : Type 0 where
  pub count : ℕ
  pub is_accepted : outcome_data c.outcome ≡ accepted count
  pub applied : IsApplied held (script_of c.script) s

to-apply : (held : plain.Stored) (c : Checked) (a : StoreAnswer) (s : plain.Stored) → IsDecision held c a → stored_by a ≡ Some s → IsToApply held c s
to-apply held c a s (Applies n now is applied same) some =
    let by : Some (stored_of now) ≡ Some s = sym (ap stored_by same) ∙ some in
    let this : stored_of now ≡ s = cc in
    record { count = n; is_accepted = is; applied = subst (IsApplied held (script_of c.script)) this applied }
to-apply held c a s (Leaves never same) some =
    let by : None ≡ Some s = sym (ap stored_by same) ∙ some in
    absurd cc

-- ---- what is stored

-- nothing is stored by a check
check-stores-none : (told : Told) (name : List ℕ) (a : StoreAnswer) (calls : List Call) (s : plain.Stored) → Runs told (Check name) calls (end_of a) → stored_by a ≡ Some s → ⊥
check-stores-none told name (answer.Initialised x) calls s runs some = let f = check-found told name calls (answer.Initialised x) runs in let is = f.is in cc
check-stores-none told name (answer.Checked c) calls s runs some = cc
check-stores-none told name (answer.Applied n x) calls s runs some = let f = check-found told name calls (answer.Applied n x) runs in let is = f.is in cc
check-stores-none told name (answer.Shown x) calls s runs some = cc
check-stores-none told name (answer.FilesRefused r) calls s runs some = cc
check-stores-none told name (answer.Refused r) calls s runs some = cc

-- nor where what is stored is shown
show-stores-none : (told : Told) (a : StoreAnswer) (calls : List Call) (s : plain.Stored) → Runs told Show calls (end_of a) → stored_by a ≡ Some s → ⊥
show-stores-none told (answer.Initialised x) calls s runs some = let f = show-found told calls (answer.Initialised x) runs in let is = f.is in cc
show-stores-none told (answer.Checked c) calls s runs some = cc
show-stores-none told (answer.Applied n x) calls s runs some = let f = show-found told calls (answer.Applied n x) runs in let is = f.is in cc
show-stores-none told (answer.Shown x) calls s runs some = cc
show-stores-none told (answer.FilesRefused r) calls s runs some = cc
show-stores-none told (answer.Refused r) calls s runs some = cc

-- the calls that stored something came to an answer that is to be stored
apply-stored-found : (told : Told) (name : List ℕ) (a : StoreAnswer) (calls : List Call) (s : plain.Stored) → Runs told (Apply name) calls (end_of a) → stored_by a ≡ Some s → IsApply told name a
apply-stored-found told name (answer.Initialised x) calls s runs some = apply-found told name calls (answer.Initialised x) runs
apply-stored-found told name (answer.Checked c) calls s runs some = absurd cc
apply-stored-found told name (answer.Applied n x) calls s runs some = apply-found told name calls (answer.Applied n x) runs
apply-stored-found told name (answer.Shown x) calls s runs some = absurd cc
apply-stored-found told name (answer.FilesRefused r) calls s runs some = absurd cc
apply-stored-found told name (answer.Refused r) calls s runs some = absurd cc

init-stored-found : (told : Told) (spec : List ℕ) (base_name : Option (List ℕ)) (a : StoreAnswer) (calls : List Call) (s : plain.Stored) → Runs told (Init spec base_name) calls (end_of a) → stored_by a ≡ Some s
    → IsInit told spec base_name a
init-stored-found told spec base_name (answer.Initialised x) calls s runs some = init-found told spec base_name calls (answer.Initialised x) runs
init-stored-found told spec base_name (answer.Checked c) calls s runs some = absurd cc
init-stored-found told spec base_name (answer.Applied n x) calls s runs some = init-found told spec base_name calls (answer.Applied n x) runs
init-stored-found told spec base_name (answer.Shown x) calls s runs some = absurd cc
init-stored-found told spec base_name (answer.FilesRefused r) calls s runs some = absurd cc
init-stored-found told spec base_name (answer.Refused r) calls s runs some = absurd cc

module _ (told : Told) (content : Content) (before after : Option (List ℕ)) (status : Status) where
  -- ---- `check SCRIPT`

  module _ (name : List ℕ) (decided : (s : plain.Stored) (t : Script) → IsAskedOf told name s t → IsDecidable t → IsSettledBy t status) where
    check-quiet : status ≢ exit.Done → status ≢ exit.Leak → content ≡ told.content → CheckHeadline told name content before after status
    check-quiet not_done not_leak kept = record {
      secure = λ e. absurd (not_done e);
      leak = λ e. absurd (not_leak e);
      kept = kept;
      decided = decided;
    }

    check-whole : (c : Checked) → IsCheck told name (answer.Checked c) → content ≡ told.content → status ≡ outcome_status (outcome_data c.outcome) → Appends before after (checked_text c)
        → CheckHeadline told name content before after status
    check-whole c f kept e put =
        let same : c ≡ f.checked = let is = f.is in cc in
        let found : IsFoundOver told name f.held.schema c = subst (IsFoundOver told name f.held.schema) (sym same) f.found in
        let over : AsksOver told name f.held (script_of c.script) = record { held = f.is_held; script = found.script } in
        record {
          secure =
              λ d. let (n, is) = done-accepted (outcome_data c.outcome) (sym e ∙ d) in
              let safe = accepted-secure (script_of c.script) (outcome_data c.outcome) n found.says is in (f.held, script_of c.script, over, safe.0, safe.1);
          leak = λ d. (f.held, script_of c.script, over, leak-shown (script_of c.script) (outcome_data c.outcome) before after found.says (sym e ∙ d) put);
          kept = kept;
          decided = decided;
        }

    check-reported : (a : StoreAnswer) (calls : List Call) → Runs told (Check name) calls (end_of a) → stored_by a ≡ None → content ≡ told.content
        → IsReported (text_of a) (status_of a) before after status → CheckHeadline told name content before after status
    check-reported (answer.Initialised s) calls runs none kept put = absurd cc
    check-reported (answer.Applied n s) calls runs none kept put = absurd cc
    check-reported (answer.Shown s) calls runs none kept put = absurd (let f = check-found told name calls (answer.Shown s) runs in let is = f.is in cc)
    check-reported (answer.Checked c) calls runs none kept (Whole e put) = check-whole c (check-found told name calls (answer.Checked c) runs) kept e put
    check-reported (answer.Checked c) calls runs none kept (Cut e front) = check-quiet (λ d. cc) (λ d. cc) kept
    check-reported (answer.FilesRefused r) calls runs none kept (Whole e put) = check-quiet (λ d. refused-not-done r (sym e ∙ d)) (λ d. refused-not-leak r (sym e ∙ d)) kept
    check-reported (answer.FilesRefused r) calls runs none kept (Cut e front) = check-quiet (λ d. cc) (λ d. cc) kept
    check-reported (answer.Refused r) calls runs none kept (Whole e put) = check-quiet (λ d. store-not-done r (sym e ∙ d)) (λ d. store-not-leak r (sym e ∙ d)) kept
    check-reported (answer.Refused r) calls runs none kept (Cut e front) = check-quiet (λ d. cc) (λ d. cc) kept

    check-headline : (calls : List Call) → Ends told (Check name) calls content before after status → CheckHeadline told name content before after status
    check-headline calls (Reported r) = check-reported r.answer calls r.is_answer r.nothing_to_store r.kept r.reported
    check-headline calls (Stored s kept put) = absurd (check-stores-none told name s.answer s.asked s.stored s.is_answer s.to_store)
    check-headline calls (Unstored s fault kept) = absurd (check-stores-none told name s.answer s.asked s.stored s.is_answer s.to_store)
    check-headline calls (NoReport a runs e kept) = let not = faulty status (inr e) in check-quiet not.0 not.1 kept
    check-headline calls (Stopped s runs e kept) = let not = stopped-so s status e in check-quiet not.0 not.1 kept

  -- ---- `apply SCRIPT`

  module _ (name : List ℕ) (decided : (s : plain.Stored) (t : Script) → IsAskedOf told name s t → s.version < last_version → IsDecidable t → IsSettledBy t status) where
    apply-quiet : status ≢ exit.Done → status ≢ exit.Leak → content ≡ told.content → ApplyHeadline told name content before after status
    apply-quiet not_done not_leak kept = record {
      accepted = λ e. absurd (not_done e);
      cut = λ e. inr kept;
      leak = λ e. absurd (not_leak e);
      unchanged = λ not_so not_cut. kept;
      decided = decided;
    }

    apply-left : (c : Checked) (f : IsApply told name (answer.Checked c)) → IsDecision f.held f.checked (answer.Checked c) → content ≡ told.content → status ≡ outcome_status (outcome_data c.outcome)
        → Appends before after (checked_text c) → ApplyHeadline told name content before after status
    apply-left c f (Applies n now is applied same) kept e put = absurd cc
    apply-left c f (Leaves not_accepted is) kept e put =
        let same : c ≡ f.checked = cc in
        let found : IsFoundOver told name f.held.schema c = subst (IsFoundOver told name f.held.schema) (sym same) f.found in
        let never : (n : ℕ) → outcome_data c.outcome ≢ accepted n = subst (λ (z : Checked). (n : ℕ) → outcome_data z.outcome ≢ accepted n) (sym same) not_accepted in
        let over : AsksOver told name f.held (script_of c.script) = record { held = f.is_held; script = found.script } in
        record {
          accepted = λ d. absurd (let (n, so) = done-accepted (outcome_data c.outcome) (sym e ∙ d) in never n so);
          cut = λ d. inr kept;
          leak = λ d. (f.held, script_of c.script, over, leak-shown (script_of c.script) (outcome_data c.outcome) before after found.says (sym e ∙ d) put);
          unchanged = λ not_so not_cut. kept;
          decided = decided;
        }

    apply-reported : (a : StoreAnswer) (calls : List Call) → Runs told (Apply name) calls (end_of a) → stored_by a ≡ None → content ≡ told.content
        → IsReported (text_of a) (status_of a) before after status → ApplyHeadline told name content before after status
    apply-reported (answer.Initialised s) calls runs none kept put = absurd cc
    apply-reported (answer.Applied n s) calls runs none kept put = absurd cc
    apply-reported (answer.Shown s) calls runs none kept put =
        let f = apply-found told name calls (answer.Shown s) runs in
        absurd (shows-none f.held f.checked s f.decided)
    apply-reported (answer.Checked c) calls runs none kept (Whole e put) =
        let f = apply-found told name calls (answer.Checked c) runs in
        apply-left c f f.decided kept e put
    apply-reported (answer.Checked c) calls runs none kept (Cut e front) = apply-quiet (λ d. cc) (λ d. cc) kept
    apply-reported (answer.FilesRefused r) calls runs none kept (Whole e put) = apply-quiet (λ d. refused-not-done r (sym e ∙ d)) (λ d. refused-not-leak r (sym e ∙ d)) kept
    apply-reported (answer.FilesRefused r) calls runs none kept (Cut e front) = apply-quiet (λ d. cc) (λ d. cc) kept
    apply-reported (answer.Refused r) calls runs none kept (Whole e put) = apply-quiet (λ d. store-not-done r (sym e ∙ d)) (λ d. store-not-leak r (sym e ∙ d)) kept
    apply-reported (answer.Refused r) calls runs none kept (Cut e front) = apply-quiet (λ d. cc) (λ d. cc) kept

    carried-out : (a : StoreAnswer) (s : plain.Stored) → IsApply told name a → stored_by a ≡ Some s → content ≡ replaced s told.content → IsCarriedOut told name content
    carried-out a s f some holds =
        let done = to-apply f.held f.checked a s f.decided some in
        let safe = accepted-secure (script_of f.checked.script) (outcome_data f.checked.outcome) done.count f.found.says done.is_accepted in
        record {
          held = f.held;
          script = script_of f.checked.script;
          asks = record { held = f.is_held; script = f.found.script };
          rises = f.rises;
          step_secure = safe.0;
          secure = safe.1;
          now = s;
          applied = done.applied;
          holds = holds;
        }

    apply-stored : (a : StoreAnswer) (s : plain.Stored) → IsApply told name a → stored_by a ≡ Some s → content ≡ replaced s told.content → IsReported (text_of a) (status_of a) before after status
        → ApplyHeadline told name content before after status
    apply-stored a s f some holds (Whole e put) =
        let done : status ≡ exit.Done = e ∙ stores-done a s some in
        record {
          accepted = λ d. carried-out a s f some holds;
          cut = λ d. inl (carried-out a s f some holds);
          leak = λ d. absurd cc;
          unchanged = λ not_so not_cut. absurd (not_so done);
          decided = decided;
        }
    apply-stored a s f some holds (Cut e front) = record {
      accepted = λ d. carried-out a s f some holds;
      cut = λ d. inl (carried-out a s f some holds);
      leak = λ d. absurd cc;
      unchanged = λ not_so not_cut. absurd (not_cut e);
      decided = decided;
    }

    apply-headline : (calls : List Call) → Ends told (Apply name) calls content before after status → ApplyHeadline told name content before after status
    apply-headline calls (Reported r) = apply-reported r.answer calls r.is_answer r.nothing_to_store r.kept r.reported
    apply-headline calls (Stored s holds put) =
        apply-stored s.answer s.stored (apply-stored-found told name s.answer s.asked s.stored s.is_answer s.to_store) s.to_store holds put
    apply-headline calls (Unstored s fault kept) = let not = faulty status fault in apply-quiet not.0 not.1 kept
    apply-headline calls (NoReport a runs e kept) = let not = faulty status (inr e) in apply-quiet not.0 not.1 kept
    apply-headline calls (Stopped s runs e kept) = let not = stopped-so s status e in apply-quiet not.0 not.1 kept

  -- ---- `init`

  module _ (spec : List ℕ) (base_name : Option (List ℕ)) (decided : (schema : Schema) (base : Database) → IsInitAsked told spec base_name schema base → (status ≡ exit.Done) ⊎ IsFaulty status) where
    init-quiet : status ≢ exit.Done → content ≡ told.content → InitHeadline told spec base_name content status
    init-quiet not_done kept = record {
      done = λ e. absurd (not_done e);
      cut = λ e. inr kept;
      unchanged = λ not_so not_cut. kept;
      decided = decided;
    }

    init-reported : (a : StoreAnswer) (calls : List Call) → Runs told (Init spec base_name) calls (end_of a) → stored_by a ≡ None → content ≡ told.content
        → IsReported (text_of a) (status_of a) before after status → InitHeadline told spec base_name content status
    init-reported (answer.Initialised s) calls runs none kept put = absurd cc
    init-reported (answer.Applied n s) calls runs none kept put = absurd cc
    init-reported (answer.Shown s) calls runs none kept put = absurd (let f = init-found told spec base_name calls (answer.Shown s) runs in let is = f.is in cc)
    init-reported (answer.Checked c) calls runs none kept put = absurd (let f = init-found told spec base_name calls (answer.Checked c) runs in let is = f.is in cc)
    init-reported (answer.FilesRefused r) calls runs none kept (Whole e put) = init-quiet (λ d. refused-not-done r (sym e ∙ d)) kept
    init-reported (answer.FilesRefused r) calls runs none kept (Cut e front) = init-quiet (λ d. cc) kept
    init-reported (answer.Refused r) calls runs none kept (Whole e put) = init-quiet (λ d. store-not-done r (sym e ∙ d)) kept
    init-reported (answer.Refused r) calls runs none kept (Cut e front) = init-quiet (λ d. cc) kept

    init-so : (a : StoreAnswer) (s : plain.Stored) → IsInit told spec base_name a → stored_by a ≡ Some s → content ≡ replaced s told.content → IsInitialised told spec base_name content
    init-so a s f some holds =
        let by : Some (stored_of f.after) ≡ Some s = sym (ap stored_by f.is) ∙ some in
        let this : s ≡ stored_of f.after = cc in
        record {
          free = f.free;
          schema = f.schema;
          spec_calls = f.spec_calls;
          is_schema = f.is_schema;
          base = f.base;
          data_calls = f.data_calls;
          is_base = f.is_base;
          holds = holds ∙ ap (λ (z : plain.Stored). replaced z told.content) (this ∙ f.stored);
        }

    init-stored : (a : StoreAnswer) (s : plain.Stored) → IsInit told spec base_name a → stored_by a ≡ Some s → content ≡ replaced s told.content → IsReported (text_of a) (status_of a) before after status
        → InitHeadline told spec base_name content status
    init-stored a s f some holds (Whole e put) =
        let done : status ≡ exit.Done = e ∙ stores-done a s some in
        record {
          done = λ d. init-so a s f some holds;
          cut = λ d. inl (init-so a s f some holds);
          unchanged = λ not_so not_cut. absurd (not_so done);
          decided = decided;
        }
    init-stored a s f some holds (Cut e front) = record {
      done = λ d. init-so a s f some holds;
      cut = λ d. inl (init-so a s f some holds);
      unchanged = λ not_so not_cut. absurd (not_cut e);
      decided = decided;
    }

    init-headline : (calls : List Call) → Ends told (Init spec base_name) calls content before after status → InitHeadline told spec base_name content status
    init-headline calls (Reported r) = init-reported r.answer calls r.is_answer r.nothing_to_store r.kept r.reported
    init-headline calls (Stored s holds put) =
        init-stored s.answer s.stored (init-stored-found told spec base_name s.answer s.asked s.stored s.is_answer s.to_store) s.to_store holds put
    init-headline calls (Unstored s fault kept) = init-quiet (faulty status fault).0 kept
    init-headline calls (NoReport a runs e kept) = init-quiet (faulty status (inr e)).0 kept
    init-headline calls (Stopped s runs e kept) = init-quiet (stopped-so s status e).0 kept

  -- ---- `show`

  module _ (decided : (s : plain.Stored) → told.content ≡ Some (Some s) → (status ≡ exit.Done) ⊎ IsFaulty status) where
    show-quiet : status ≢ exit.Done → content ≡ told.content → ShowHeadline told content before after status
    show-quiet not_done kept = record { shown = λ e. absurd (not_done e); kept = kept; decided = decided }

    show-reported : (a : StoreAnswer) (calls : List Call) → Runs told Show calls (end_of a) → stored_by a ≡ None → content ≡ told.content
        → IsReported (text_of a) (status_of a) before after status → ShowHeadline told content before after status
    show-reported (answer.Initialised s) calls runs none kept put = absurd cc
    show-reported (answer.Applied n s) calls runs none kept put = absurd cc
    show-reported (answer.Checked c) calls runs none kept put = absurd (let f = show-found told calls (answer.Checked c) runs in let is = f.is in cc)
    show-reported (answer.Shown x) calls runs none kept (Whole e put) =
        let f = show-found told calls (answer.Shown x) runs in
        let same : x ≡ f.held = let is = f.is in cc in
        record {
          shown = λ d. (stored_of x, subst (λ (z : code.Stored). IsHeld told.content (stored_of z)) (sym same) f.is_held, put);
          kept = kept;
          decided = decided;
        }
    show-reported (answer.Shown x) calls runs none kept (Cut e front) = show-quiet (λ d. cc) kept
    show-reported (answer.FilesRefused r) calls runs none kept (Whole e put) = show-quiet (λ d. refused-not-done r (sym e ∙ d)) kept
    show-reported (answer.FilesRefused r) calls runs none kept (Cut e front) = show-quiet (λ d. cc) kept
    show-reported (answer.Refused r) calls runs none kept (Whole e put) = show-quiet (λ d. store-not-done r (sym e ∙ d)) kept
    show-reported (answer.Refused r) calls runs none kept (Cut e front) = show-quiet (λ d. cc) kept

    show-headline : (calls : List Call) → Ends told Show calls content before after status → ShowHeadline told content before after status
    show-headline calls (Reported r) = show-reported r.answer calls r.is_answer r.nothing_to_store r.kept r.reported
    show-headline calls (Stored s holds put) = absurd (show-stores-none told s.answer s.asked s.stored s.is_answer s.to_store)
    show-headline calls (Unstored s fault kept) = absurd (show-stores-none told s.answer s.asked s.stored s.is_answer s.to_store)
    show-headline calls (NoReport a runs e kept) = show-quiet (faulty status (inr e)).0 kept
    show-headline calls (Stopped s runs e kept) = show-quiet (stopped-so s status e).0 kept

  -- ---- each command

  pub headline : (command : Command) (calls : List Call) → Ends told command calls content before after status → StoreHeadline told command content before after status
  headline (Init spec base_name) calls ends =
      init-headline spec base_name (λ schema base asked. init-decided told spec base_name schema base asked content before after status calls ends) calls ends
  headline (Check name) calls ends =
      check-headline name (λ s t asked decidable. check-decided told name s t asked decidable content before after status calls ends (check-stores-none told name)) calls ends
  headline (Apply name) calls ends =
      apply-headline name
      (λ s t asked rises decidable. apply-decided told name s t asked decidable content before after status rises calls ends
      (λ a behind u runs some. (apply-stored-found told name a behind u runs some, stores-done a u some))) calls ends
  headline Show calls ends = show-headline (λ s is. show-decided told s is content before after status calls ends (show-stores-none told)) calls ends
