-- What each step of a search makes of its frontier.
use Rattle.std.proofs.Common.{◌≡◌, ◌≢◌, ℕ, ◌+◌, ◌-◌, ◌<◌, ◌≤◌, List, length, pos, ◌<ℤ◌, ◌≤ℤ◌, slice_index, slice_set, replicate, ⊎_elim, arith, ap, ◌∙◌, sym, subst}
use Rattle.std.proofs.lemmas.Int.{ints}
use Rattle.std.proofs.lemmas.Bool.{cases_eq, cases_lt}
use Rattle.std.proofs.lemmas.List.{length-set, length-replicate, get_or-replicate, ext_get_or}
use Rattle.solve_order.specs.declared.frontier.Reach.{Reach}
use Rattle.solve_order.specs.declared.frontier.TheConstants.{UNSETTLED}
use Rattle.solve_order.specs.Permutation.{IsPaired, Exchanges}
use Rattle.solve_order.specs.Reach.{unreached, reach_of, lowered_at, IsHeap, IsAlmostHeapAbove, IsAlmostHeapBelow, KeepsBeyond, IsGrouped, IsFrontier, JoinsWaiting, IsExplored, SettlesLowest}
use Rattle.solve_order.proofs.HeapLemmas.{up_start, up_new, down_start, IsHeap-same, greatest_at_first}
use Rattle.solve_order.proofs.OrderLemmas.{lowered_at-swap, reach_of-set_same, reach_of-set_other, IsGrouped-kept, IsGrouped-lower, IsGrouped-join, IsGrouped-settle}

module _ (reached : List Reach) (items places : List ℕ) (w t : ℕ) (paired : IsPaired items places) (f : IsFrontier reached items places w t) where
  -- no vertex is raised
  pub lowered_not_negative : (v : ℕ) → v < length reached → pos 0 ≤ℤ (reach_of reached v).lowered
  lowered_not_negative v h =
      ⊎_elim
      (λ (a : slice_index places v < w). let x = (f.grouped.waits v h a).0 in omega (arith, ints))
      (λ (b : w ≤ slice_index places v). ⊎_elim
      (λ (a : slice_index places v < t). let x = (f.grouped.settled v h b a).0 in omega (arith, ints))
      (λ (a : t ≤ slice_index places v). let x : (reach_of reached v).lowered ≡ pos 0 = ap (λ (r : Reach). r.lowered) (f.grouped.beyond v h a) in omega (arith, ints))
      (cases_lt (slice_index places v) t))
      (cases_lt (slice_index places v) w)

  -- a vertex that is not settled waits, or is not reached
  pub unsettled_place : (v : ℕ) → v < length reached → (reach_of reached v).rank ≡ UNSETTLED → slice_index places v < t → slice_index places v < w
  unsettled_place v h unsettled within =
      ⊎_elim
      (λ (a : slice_index places v < w). a)
      (λ (b : w ≤ slice_index places v). let x = (f.grouped.settled v h b within).1 in let y = paired.short in let z = f.touched_below in absurd (omega arith))
      (cases_lt (slice_index places v) w)

  same_key : (v : ℕ) (r : Reach) (i : ℕ) → slice_index items i ≢ v → lowered_at (slice_set reached v r) items i ≡ lowered_at reached items i
  same_key v r i ne = ap (λ (x : Reach). x.lowered) (reach_of-set_other reached v (slice_index items i) r ne)

  -- v waits, and is lowered further
  pub heap_before_lower : (v : ℕ) (r : Reach) → v < length reached → slice_index places v < w → (reach_of reached v).lowered <ℤ r.lowered → IsAlmostHeapAbove (lowered_at (slice_set reached v r) items) w (slice_index places v)
  heap_before_lower v r h waits lower =
      let n = f.as_long in
      let at_v = (paired.place_of v (omega arith)).1 in
      up_start (lowered_at reached items) (lowered_at (slice_set reached v r) items) w (slice_index places v) f.heap
      (λ i b ne. same_key v r i (λ e. ne (sym (paired.item_at i (let x = f.waiting_below in let y = f.touched_below in omega arith)).1 ∙ ap (slice_index places) e)))
      waits
      (let x : lowered_at reached items (slice_index places v) ≡ (reach_of reached v).lowered = ap (λ u. (reach_of reached u).lowered) at_v in
      let y : lowered_at (slice_set reached v r) items (slice_index places v) ≡ r.lowered = ap (λ u. (reach_of (slice_set reached v r) u).lowered) at_v ∙ ap (λ (x : Reach). x.lowered) (reach_of-set_same reached v r h) in
      omega (arith, ints))

  pub IsFrontier-lower : (v : ℕ) (r : Reach) (items' places' : List ℕ) → v < length reached → slice_index places v < w → (reach_of reached v).lowered <ℤ r.lowered → r.rank ≡ UNSETTLED → IsHeap (lowered_at (slice_set reached v r) items') w → KeepsBeyond w places places' → length items' ≡ length items → IsFrontier (slice_set reached v r) items' places' w t
  IsFrontier-lower v r items' places' h waits lower rank heap kept len =
      let n = length-set reached v r in
      let old = lowered_not_negative v h in
      record {
        as_long = n ∙ f.as_long ∙ sym len;
        waiting_below = f.waiting_below;
        touched_below = let x = f.touched_below in omega arith;
        heap = heap;
        grouped = IsGrouped-kept (slice_set reached v r) places places' w t (paired.as_long ∙ sym f.as_long ∙ sym n) f.waiting_below (IsGrouped-lower reached v r h places w t f.waiting_below f.grouped waits (omega (arith, ints)) rank) kept;
      }

  -- v is reached
  pub heap_before_join : (v : ℕ) (r : Reach) (items1 places1 : List ℕ) → t ≤ slice_index places v → JoinsWaiting w t items places items1 places1 v → IsAlmostHeapAbove (lowered_at (slice_set reached v r) items1) (w + 1) w
  heap_before_join v r items1 places1 beyond joins =
      up_new (lowered_at reached items) (lowered_at (slice_set reached v r) items1) w f.heap
      (λ i b.
      ap (λ u. (reach_of (slice_set reached v r) u).lowered) (joins.items_stay i b) ∙
      same_key v r i (λ e. let x = (paired.item_at i (let x = f.waiting_below in let y = f.touched_below in omega arith)).1 in let y = ap (slice_index places) e in let z = f.waiting_below in absurd (omega arith)))

  pub IsFrontier-join : (v : ℕ) (r : Reach) (items1 places1 items' places' : List ℕ) → v < length reached → t ≤ slice_index places v → JoinsWaiting w t items places items1 places1 v → IsPaired items1 places1 → pos 0 <ℤ r.lowered → r.rank ≡ UNSETTLED → IsHeap (lowered_at (slice_set reached v r) items') (w + 1) → KeepsBeyond (w + 1) places1 places' → length items' ≡ length items1 → IsFrontier (slice_set reached v r) items' places' (w + 1) (t + 1)
  IsFrontier-join v r items1 places1 items' places' h beyond joins paired1 lower rank heap kept len =
      let n = length-set reached v r in
      let m = f.as_long in
      let l = joins.as_long in
      let below = f.waiting_below in
      record {
        as_long = n ∙ f.as_long ∙ sym l ∙ sym len;
        waiting_below = omega arith;
        touched_below = let x = (paired.place_of v (omega arith)).0 in omega arith;
        heap = heap;
        grouped = IsGrouped-kept (slice_set reached v r) places1 places' (w + 1) (t + 1) (paired1.as_long ∙ l ∙ sym m ∙ sym n) (omega arith) (IsGrouped-join reached v r h items places items1 places1 w t (sym m) below f.grouped joins lower rank) kept;
      }

  -- no vertex waits
  pub explored : w ≡ 0 → IsExplored reached
  explored none v h unsettled =
      ⊎_elim
      (λ (a : slice_index places v < t). let x = unsettled_place v h unsettled a in absurd (omega arith))
      (λ (a : t ≤ slice_index places v). ap (λ (r : Reach). r.lowered) (f.grouped.beyond v h a))
      (cases_lt (slice_index places v) t)

  -- nothing is reached any more
  pub forgotten : (reached' : List Reach) → length reached' ≡ length reached → ((i : ℕ) → i < t → reach_of reached' (slice_index items i) ≡ unreached) → ((v : ℕ) → ((i : ℕ) → i < t → slice_index items i ≢ v) → reach_of reached' v ≡ reach_of reached v) → reached' ≡ replicate (length reached) unreached
  forgotten reached' len gone others =
      ext_get_or unreached reached' (replicate (length reached) unreached) (len ∙ sym (length-replicate (length reached) unreached))
      (λ v h.
      let at_v = paired.place_of v (let m = f.as_long in omega arith) in
      let none : reach_of reached' v ≡ unreached =
      ⊎_elim
      (λ (a : slice_index places v < t). ap (reach_of reached') (sym at_v.1) ∙ gone (slice_index places v) a)
      (λ (a : t ≤ slice_index places v).
      others v (λ i b e. let x = (paired.item_at i (let y = f.touched_below in omega arith)).1 in let y = ap (slice_index places) e in absurd (omega arith)) ∙
      f.grouped.beyond v (omega arith) a)
      (cases_lt (slice_index places v) t)
      in
      none ∙ sym (get_or-replicate (length reached) v unreached unreached (omega arith)))

  module _ (v : ℕ) (r : Reach) (some : 0 < w) (first : v ≡ slice_index items 0) (ranked : r ≡ record (reach_of reached v) { rank = t - w }) where
    first_within : v < length reached
    first_within = let x = (paired.item_at 0 (let y = f.waiting_below in let z = f.touched_below in omega arith)).0 in let m = f.as_long in omega arith

    first_place : slice_index places v ≡ 0
    first_place = ap (slice_index places) first ∙ (paired.item_at 0 (let y = f.waiting_below in let z = f.touched_below in omega arith)).1

    first_waits : (pos 0 <ℤ (reach_of reached v).lowered) × ((reach_of reached v).rank ≡ UNSETTLED)
    first_waits = let x = first_place in f.grouped.waits v first_within (omega arith)

    key_stays : (i : ℕ) → lowered_at (slice_set reached v r) items i ≡ lowered_at reached items i
    key_stays i =
        ⊎_elim
        (λ (e : slice_index items i ≡ v).
        ap (λ u. (reach_of (slice_set reached v r) u).lowered) e ∙ ap (λ (x : Reach). x.lowered) (reach_of-set_same reached v r first_within) ∙ ap (λ (x : Reach). x.lowered) ranked ∙ ap (λ u. (reach_of reached u).lowered) (sym e))
        (λ (ne : slice_index items i ≢ v). same_key v r i ne)
        (cases_eq (slice_index items i) v)

    pub heap_before_settle : (items1 places1 : List ℕ) → Exchanges 0 (w - 1) items places items1 places1 → IsAlmostHeapBelow (lowered_at (slice_set reached v r) items1) (w - 1) 0
    heap_before_settle items1 places1 x =
        let y = f.waiting_below in
        let z = f.touched_below in
        down_start (lowered_at (slice_set reached v r) items) (lowered_at (slice_set reached v r) items1) w (w - 1) (omega arith)
        (lowered_at-swap (slice_set reached v r) items items1 0 (w - 1) x.swapped (omega arith) (omega arith))
        (IsHeap-same (lowered_at reached items) (lowered_at (slice_set reached v r) items) w f.heap (λ i b. key_stays i))

    pub IsFrontier-settle : (items1 places1 items' places' : List ℕ) → Exchanges 0 (w - 1) items places items1 places1 → IsPaired items1 places1 → length items1 ≡ length items → IsHeap (lowered_at (slice_set reached v r) items') (w - 1) → KeepsBeyond (w - 1) places1 places' → length items' ≡ length items1 → IsFrontier (slice_set reached v r) items' places' (w - 1) t
    IsFrontier-settle items1 places1 items' places' x paired1 len1 heap kept len =
        let n = length-set reached v r in
        let m = f.as_long in
        let y = f.waiting_below in
        let z = f.touched_below in
        let back : w - 1 + 1 ≡ w = omega arith in
        let lowered : pos 0 <ℤ r.lowered = subst (λ (q : Reach). pos 0 <ℤ q.lowered) (sym ranked) first_waits.0 in
        let rank : r.rank ≡ t - (w - 1 + 1) = ap (λ (q : Reach). q.rank) ranked ∙ ap (λ k. t - k) (sym back) in
        record {
          as_long = n ∙ m ∙ sym len1 ∙ sym len;
          waiting_below = omega arith;
          touched_below = omega arith;
          heap = heap;
          grouped = IsGrouped-kept (slice_set reached v r) places1 places' (w - 1) t (paired1.as_long ∙ len1 ∙ sym m ∙ sym n) (omega arith)
              (IsGrouped-settle reached v r items places items1 places1 (w - 1) t first_within paired (sym m) (omega arith) z (subst (λ k. IsGrouped reached places k t) (sym back) f.grouped) first x lowered rank)
              kept;
        }

    pub settles_lowest : SettlesLowest reached (slice_set reached v r) v
    settles_lowest =
        let m = f.as_long in
        let y = f.waiting_below in
        let z = f.touched_below in
        let short = paired.short in
        let new : reach_of (slice_set reached v r) v ≡ r = reach_of-set_same reached v r first_within in
        let rank : (reach_of (slice_set reached v r) v).rank ≡ t - w = ap (λ (q : Reach). q.rank) new ∙ ap (λ (q : Reach). q.rank) ranked in
        record {
          within = first_within;
          waited = first_waits.1;
          lowered = first_waits.0;
          lowest = λ u h unsettled.
              ⊎_elim
              (λ (a : slice_index places u < t).
              let waits = unsettled_place u h unsettled a in
              let x = greatest_at_first (lowered_at reached items) w (slice_index places u) f.heap waits in
              let k : lowered_at reached items (slice_index places u) ≡ (reach_of reached u).lowered = ap (λ q. (reach_of reached q).lowered) (paired.place_of u (omega arith)).1 in
              let l : lowered_at reached items 0 ≡ (reach_of reached v).lowered = ap (λ q. (reach_of reached q).lowered) (sym first) in
              omega (arith, ints))
              (λ (a : t ≤ slice_index places u).
              let x : (reach_of reached u).lowered ≡ pos 0 = ap (λ (q : Reach). q.lowered) (f.grouped.beyond u h a) in
              let k = first_waits.0 in
              omega (arith, ints))
              (cases_lt (slice_index places u) t);
          after = λ u h settled.
              ⊎_elim
              (λ (a : slice_index places u < w). absurd (settled (f.grouped.waits u h a).1))
              (λ (b : w ≤ slice_index places u). ⊎_elim
              (λ (a : slice_index places u < t). let x = (f.grouped.settled u h b a).1 in omega arith)
              (λ (a : t ≤ slice_index places u). absurd (settled (ap (λ (q : Reach). q.rank) (f.grouped.beyond u h a))))
              (cases_lt (slice_index places u) t))
              (cases_lt (slice_index places u) w);
          ranked = omega arith;
          settled = ap (slice_set reached v) (ranked ∙ ap (λ k. record (reach_of reached v) { rank = k }) (sym rank));
        }
