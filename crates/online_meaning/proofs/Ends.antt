-- What is kept stays right under every event.
use Rattle.std.proofs.Common.{◌≡◌, ℕ, Bool, true, false, not, ◌||◌, List, [], ◌∷◌, refl, ap, sym, ◌∙◌, subst, take, inl, inr, arith}
use Rattle.std.specs.Prelude.{None, Some, ◌==◌, filter, if◌then◌else◌}
use Rattle.std.specs.List.{AllByRecursion}
use Rattle.std.specs.Option.{option_map_or}
use Rattle.std.proofs.lemmas.Bool.{eqb-true, false≢true, false_from_ne_true}
use Rattle.type_schema.specs.Schema.{Added, Schema}
use Rattle.type_schema.specs.Script.{Script, count, schema_at, IsScript}
use Rattle.data_meaning.specs.Database.{Database, has_record, IsDatabase, HasNoFurtherTables}
use Rattle.data_meaning.specs.Run.{init_value, run_to, widened}
use Rattle.data_meaning.specs.Values.{Value}
use Rattle.data_meaning.proofs.Agreement.{ap2}
use Rattle.data_meaning.proofs.Carried.{all-of, all-append}
use Rattle.data_meaning.proofs.Tests.{and-left, and-right}
use Rattle.data_records.specs.Changed.{with_field}
use Rattle.data_records.specs.Inserted.{next_of}
use Rattle.data_records.specs.Removed.{without_record}
use Rattle.online_meaning.specs.Deep.{added_at}
use Rattle.online_meaning.specs.Marks.{RecordId, same_record, is_among, reads_deeply, finds_deeply, slow_records, without, marked}
use Rattle.online_meaning.specs.Events.{Event, batch, put, make, erase, switch, changed_by, marks_of}
use Rattle.online_meaning.specs.Rollouts.{Rollout, begun, is_marked, switched, after_event, IsTaken, Goes, IsRight, RolloutsEndRight}
use Rattle.online_meaning.proofs.Agreed.{there-first}
use Rattle.online_meaning.proofs.Changed.{model-there, put-ids, erase-stays}
use Rattle.online_meaning.proofs.Queues.{any-cut, was-none, not-marked, record-is, slow-model, among-slow}
use Rattle.online_meaning.proofs.Switches.{adding, switch-is}
use Rattle.online_meaning.proofs.Unmarked.{not-it, row-has, unmarked-alike, event-over, event-only}
use Rattle.online_meaning.proofs.Waits.{all-filter, all-kept, all-drop, both-pass, same-self, all-among, once-filter, once-drop, once-marked, slow-is, slow-once, slow-same}

turned : (b : Bool) → not b ≡ true → b ≡ false
turned true h = absurd (false≢true h)
turned false h = refl

other-way : (r q : RecordId) → same_record r q ≡ false → same_record q r ≡ false
other-way r q other =
    false_from_ne_true (same_record q r) (λ h. let same : r ≡ q = sym (record-is q r h) in false≢true (sym other ∙ ap (same_record r) (sym same) ∙ same-self r))

module _ (t : Script) (is : IsScript t) where
  abbrev s : Schema
  s = schema_at t 0

  module _ (r : Rollout) (right : IsRight t r) where
    abbrev d : Database
    d = r.database

    -- ---- a batch

    batch-ready : (size k : ℕ) (a : Added) → added_at t k ≡ Some a → (i : ℕ) → has_record (run_to t k (widened t d)) a.model i ≡ true
        → is_marked (after_event t (batch size) r) a.model i ≡ false → (after_event t (batch size) r).kept k i ≡ init_value (run_to t k (widened t d)) a.init i
    batch-ready size k a here i there unmarked =
        let own : RecordId = record { model = a.model; id = i } in
        ap (λ o. option_map_or (λ (u : Added). if is_among (record { model = u.model; id = i }) (take size r.queue) then init_value (run_to t k (widened t d)) u.init i else r.kept k i) o (r.kept k i)) here
        ∙ (elim (is_among own (take size r.queue)) as (λ (b : Bool). is_among own (take size r.queue) ≡ b
        → (if b then init_value (run_to t k (widened t d)) a.init i else r.kept k i) ≡ init_value (run_to t k (widened t d)) a.init i) [
          | true ↦ λ taken. refl
          | false ↦ λ not-taken. right.ready k a here i there (any-cut (same_record own) size r.queue ∙ ap2 (λ b c. b || c) not-taken unmarked)
        ]) refl

    -- ---- each event

    no-result : {A : Type 0} → r.result ≡ None → (made : Database) → r.result ≡ Some made → A
    no-result none made some = let never : None ≡ Some made = sym none ∙ some in cc

    -- the kept values stay right where the queue keeps what was marked
    go-on : (e : Event) → IsTaken t r e → ((n i : ℕ) → has_record (changed_by s e d) n i ≡ true → is_marked (after_event t e r) n i ≡ false
        → (is_among (record { model = n; id = i }) (marks_of t e d) ≡ false) × (is_marked r n i ≡ false))
        → (k : ℕ) (a : Added) → added_at t k ≡ Some a → (i : ℕ) → has_record (run_to t k (widened t (changed_by s e d))) a.model i ≡ true
        → is_marked (after_event t e r) a.model i ≡ false → r.kept k i ≡ init_value (run_to t k (widened t (changed_by s e d))) a.init i
    go-on e taken parts k a here i there unmarked =
        let both = parts a.model i (there-first t (changed_by s e d) a.model i k there) unmarked in
        let alike = unmarked-alike t is d right.over right.only e taken.accepted k a here i there both.0 in
        right.ready k a here i alike.there both.1 ∙ alike.value

    erased-parts : (m id : ℕ) → IsTaken t r (erase m id) → (n i : ℕ) → has_record (without_record m id d) n i ≡ true → is_marked (after_event t (erase m id) r) n i ≡ false
        → (is_among (record { model = n; id = i }) (marks_of t (erase m id) d) ≡ false) × (is_marked r n i ≡ false)
    erased-parts m id taken n i there unmarked =
        let own : RecordId = record { model = n; id = i } in
        let erased : RecordId = record { model = m; id = id } in
        let both = not-marked own (marks_of t (erase m id) d) (without erased r.queue) unmarked in
        let differs : same_record erased own ≡ false
        = false_from_ne_true (same_record erased own)
        (λ h.
        not-it t is d right.over right.only m id taken.accepted.0 taken.accepted.1 n i there (sym (eqb-true m n (and-left _ _ h))) (sym (eqb-true id i (and-right (m == n) _ h)))) in
        (both.0, was-none (λ q. not (same_record erased q)) own r.queue (ap not differs) both.1)

    -- ---- who waits

    abbrev Slow : Database → RecordId → Type 0
    Slow u q = is_among q (slow_records t u) ≡ true

    put-slow : (m id f : ℕ) (v : Value) → AllByRecursion (Slow (with_field m id f v d)) (marked (marks_of t (put m id f v) d) r.queue)
    put-slow m id f v =
        let same : slow_records t (with_field m id f v d) ≡ slow_records t d = slow-same t (with_field m id f v d) d (put-ids d m id f v) in
        let marks = marks_of t (put m id f v) d in
        subst (λ (xs : List RecordId). AllByRecursion (λ q. is_among q xs ≡ true) (marked marks r.queue)) (sym same)
        (all-append (Slow d) (filter (λ q. not (is_among q marks)) r.queue) marks (all-filter (Slow d) (λ q. not (is_among q marks)) r.queue right.slow)
        (all-filter (Slow d) (λ q. reads_deeply t d q (record { model = m; id = id; field = f })) (slow_records t d) (all-among (slow_records t d))))

    make-slow : (m : ℕ) (row : List Value) → IsTaken t r (make m row)
        → AllByRecursion (Slow (changed_by s (make m row) d)) (marked (marks_of t (make m row) d) r.queue)
    make-slow m row taken =
        let e = changed_by s (make m row) d in
        let only' = event-only t is d right.over right.only (make m row) taken.accepted in
        let marks = marks_of t (make m row) d in
        let stays = all-of (Slow d) (Slow e) (λ q slow.
        let it = slow-is t d q slow in
        let there = row-has t is d right.over right.only m row taken.accepted.0 taken.accepted.1 taken.accepted.2 q.model q.id it.1 in
        among-slow t e q.model q.id it.0 there (model-there s e only' q.model q.id there)) r.queue right.slow in
        all-append (Slow e) (filter (λ q. not (is_among q marks)) r.queue) marks (all-filter (Slow e) (λ q. not (is_among q marks)) r.queue stays)
        (all-filter (Slow e) (λ q. same_record q (record { model = m; id = next_of d m }) || finds_deeply t q.model m) (slow_records t e) (all-among (slow_records t e)))

    erase-slow : (m id : ℕ) → IsTaken t r (erase m id)
        → AllByRecursion (Slow (without_record m id d)) (marked (marks_of t (erase m id) d) (without (record { model = m; id = id }) r.queue))
    erase-slow m id taken =
        let e = without_record m id d in
        let erased : RecordId = record { model = m; id = id } in
        let only' = event-only t is d right.over right.only (erase m id) taken.accepted in
        let marks = marks_of t (erase m id) d in
        let kept = without erased r.queue in
        let others = all-kept (λ q. same_record q erased ≡ false) (λ q. not (same_record erased q)) r.queue (λ q h. other-way erased q (turned (same_record erased q) h)) in
        let both = both-pass (Slow d) (λ q. same_record q erased ≡ false) kept (all-filter (Slow d) (λ q. not (same_record erased q)) r.queue right.slow) others in
        let stays = all-of (λ q. Slow d q × (same_record q erased ≡ false)) (Slow e) (λ q it.
        let slow = slow-is t d q it.0 in
        let there = erase-stays d m id q.model q.id it.1 slow.1 in
        among-slow t e q.model q.id slow.0 there (model-there s e only' q.model q.id there)) kept both in
        all-append (Slow e) (filter (λ q. not (is_among q marks)) kept) marks (all-filter (Slow e) (λ q. not (is_among q marks)) kept stays)
        (all-filter (Slow e) (λ q. finds_deeply t q.model m) (slow_records t e) (all-among (slow_records t e)))

    pub event-right : (e : Event) → IsTaken t r e → IsRight t (after_event t e r)
    event-right (batch size) taken = record {
      over = right.over;
      only = right.only;
      slow = all-drop (Slow d) size r.queue right.slow;
      once = once-drop size r.queue right.once;
      ready = λ k a here i there unmarked. batch-ready size k a here i there unmarked;
      result = λ made some. no-result taken.going_on made some;
    }
    event-right (put m id f v) taken = record {
      over = event-over t is d right.over right.only (put m id f v) taken.accepted;
      only = event-only t is d right.over right.only (put m id f v) taken.accepted;
      slow = put-slow m id f v;
      once = once-marked (marks_of t (put m id f v) d) r.queue (once-filter (λ q. reads_deeply t d q (record { model = m; id = id; field = f })) (slow_records t d) (slow-once t is d right.over)) right.once;
      ready = go-on (put m id f v) taken (λ n i there unmarked. not-marked (record { model = n; id = i }) (marks_of t (put m id f v) d) r.queue unmarked);
      result = λ made some. no-result taken.going_on made some;
    }
    event-right (make m row) taken = record {
      over = event-over t is d right.over right.only (make m row) taken.accepted;
      only = event-only t is d right.over right.only (make m row) taken.accepted;
      slow = make-slow m row taken;
      once = once-marked (marks_of t (make m row) d) r.queue (once-filter (λ q. same_record q (record { model = m; id = next_of d m }) || finds_deeply t q.model m) (slow_records t (changed_by s (make m row) d)) (slow-once t is (changed_by s (make m row) d) (event-over t is d right.over right.only (make m row) taken.accepted))) right.once;
      ready = go-on (make m row) taken (λ n i there unmarked. not-marked (record { model = n; id = i }) (marks_of t (make m row) d) r.queue unmarked);
      result = λ made some. no-result taken.going_on made some;
    }
    event-right (erase m id) taken = record {
      over = event-over t is d right.over right.only (erase m id) taken.accepted;
      only = event-only t is d right.over right.only (erase m id) taken.accepted;
      slow = erase-slow m id taken;
      once =
          once-marked (marks_of t (erase m id) d) (without (record { model = m; id = id }) r.queue) (once-filter (λ q. finds_deeply t q.model m) (slow_records t (changed_by s (erase m id) d)) (slow-once t is (changed_by s (erase m id) d) (event-over t is d right.over right.only (erase m id) taken.accepted)))
          (once-filter (λ q. not (same_record (record { model = m; id = id }) q)) r.queue right.once);
      ready = go-on (erase m id) taken (erased-parts m id taken);
      result = λ made some. no-result taken.going_on made some;
    }
    event-right switch taken = record {
      over = right.over;
      only = right.only;
      slow = right.slow;
      once = right.once;
      ready = λ k a here i there unmarked. right.ready k a here i there unmarked;
      result = λ made some. let same : switched t r (count t) ≡ made = cc in sym same ∙ switch-is t is r right (count t) (omega arith);
    }

  -- ---- the beginning, and lists of events

  pub begin-right : (d : Database) → IsDatabase s d → HasNoFurtherTables s d → IsRight t (begun t d)
  begin-right d over only = record {
    over = over;
    only = only;
    slow = all-among (slow_records t d);
    once = slow-once t is d over;
    ready = λ k a here i there unmarked.
        let add = adding t k a here in
        let in-d = there-first t d a.model i k there in
        let slow = among-slow t d a.model i (slow-model t k add.within a here) in-d (model-there s d only a.model i in-d) in
        let never : true ≡ false = sym slow ∙ unmarked in
        cc;
    result = λ made some. cc;
  }

  goes-right : (events : List Event) (r last : Rollout) → IsRight t r → Goes t r events last → IsRight t last
  goes-right [] r last right goes = subst (IsRight t) (sym goes) right
  goes-right (e ∷ events) r last right goes =
      elim goes [
        | inl taken ↦ goes-right events (after_event t e r) last (event-right r right e taken.0) taken.1
        | inr refused ↦ goes-right events r last right refused
      ]

pub end_right : RolloutsEndRight
end_right t is d over only events last goes = goes-right t is events (begun t d) last (begin-right t is d over only) goes
