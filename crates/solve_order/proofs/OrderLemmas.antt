-- What an exchange of two vertices in order keeps.
use Rattle.std.proofs.Common.{◌-◌, pos, ◌<ℤ◌, slice_set, subst, ◌≡◌, ◌≢◌, ℕ, ◌+◌, ◌<◌, ◌≤◌, List, length, slice_index, ⊎_elim, arith, ap, ◌∙◌, sym}
use Rattle.std.proofs.lemmas.Bool.{cases_eq, cases_lt}
use Rattle.std.proofs.lemmas.List.{get_or-set_same, get_or-set_other, length-set}
use Rattle.std.specs.List.{swap}
use Rattle.std.proofs.lemmas.List.Edits.{Swapped, swapped_from_swap, length-swap}
use Rattle.solve_order.specs.declared.frontier.Reach.{Reach}
use Rattle.solve_order.specs.Permutation.{IsPaired, Exchanges}
use Rattle.solve_order.specs.declared.frontier.TheConstants.{UNSETTLED}
use Rattle.solve_order.specs.Reach.{unreached, reach_of, lowered_at, KeepsBeyond, IsGrouped, JoinsWaiting}

-- the keys of the places are exchanged too
pub lowered_at-swap : (reached : List Reach) (old new : List ℕ) (i j : ℕ) → new ≡ swap old i j → i < length old → j < length old → Swapped (lowered_at reached old) (lowered_at reached new) i j
lowered_at-swap reached old new i j e h k =
    let s = swapped_from_swap old new i j 0 h k e in
    let key = λ (v : ℕ). (reach_of reached v).lowered in
    (ap key s.0, ap key s.1, λ m ne ne2. ap key (s.2 m ne ne2))

pub KeepsBeyond-trans : (n : ℕ) (a b c : List ℕ) → KeepsBeyond n a b → KeepsBeyond n b c → KeepsBeyond n a c
KeepsBeyond-trans n a b c h k = record {
  as_long = k.as_long ∙ h.as_long;
  within = λ v i p. let e = h.as_long in k.within v (omega arith) (h.within v i p);
  beyond = λ v i p. let e = h.as_long in let x = h.beyond v i p in k.beyond v (omega arith) (omega arith) ∙ x;
}

pub KeepsBeyond-exchange : (n i j : ℕ) (items places items' places' : List ℕ) → IsPaired items places → IsPaired items' places' → n ≤ length items → i < n → j < n → Exchanges i j items places items' places' → KeepsBeyond n places places'
KeepsBeyond-exchange n i j items places items' places' paired paired' below hi hj x = record {
  as_long = paired'.as_long ∙ ap length x.swapped ∙ length-swap items i j ∙ sym paired.as_long;
  within = λ v h p.
      ⊎_elim
      (λ (e : v ≡ slice_index items i). let y : slice_index places' v ≡ j = ap (slice_index places') e ∙ x.first in omega arith)
      (λ (ne : v ≢ slice_index items i). ⊎_elim
      (λ (e : v ≡ slice_index items j). let y : slice_index places' v ≡ i = ap (slice_index places') e ∙ x.second in omega arith)
      (λ (ne2 : v ≢ slice_index items j). let y = x.others v ne ne2 in omega arith)
      (cases_eq v (slice_index items j)))
      (cases_eq v (slice_index items i));
  beyond = λ v h p.
      x.others v
      (λ e. let y = paired.item_at i (omega arith) in let z = ap (slice_index places) e in omega arith)
      (λ e. let y = paired.item_at j (omega arith) in let z = ap (slice_index places) e in omega arith);
}

-- ---- the groups

pub reach_of-set_same : (reached : List Reach) (v : ℕ) (r : Reach) → v < length reached → reach_of (slice_set reached v r) v ≡ r
reach_of-set_same reached v r h = get_or-set_same reached v r unreached h

pub reach_of-set_other : (reached : List Reach) (v u : ℕ) (r : Reach) → u ≢ v → reach_of (slice_set reached v r) u ≡ reach_of reached u
reach_of-set_other reached v u r ne = get_or-set_other reached v u r unreached ne

-- an order that keeps what stands beyond those that wait keeps the groups
pub IsGrouped-kept : (reached : List Reach) (places places' : List ℕ) (w t : ℕ) → length places ≡ length reached → w ≤ t → IsGrouped reached places w t → KeepsBeyond w places places' → IsGrouped reached places' w t
IsGrouped-kept reached places places' w t e le_t g k = record {
  waits = λ v h p. ⊎_elim
      (λ (lt : slice_index places v < w). g.waits v h lt)
      (λ (le : w ≤ slice_index places v). let x = k.beyond v (omega arith) le in absurd (omega arith))
      (cases_lt (slice_index places v) w);
  settled = λ v h p q. ⊎_elim
      (λ (lt : slice_index places v < w). let x = k.within v (omega arith) lt in absurd (omega arith))
      (λ (le : w ≤ slice_index places v). let x = k.beyond v (omega arith) le in g.settled v h le (omega arith))
      (cases_lt (slice_index places v) w);
  beyond = λ v h p. ⊎_elim
      (λ (lt : slice_index places v < w). let x = k.within v (omega arith) lt in absurd (omega arith))
      (λ (le : w ≤ slice_index places v). let x = k.beyond v (omega arith) le in g.beyond v h (omega arith))
      (cases_lt (slice_index places v) w);
}

module _ (reached : List Reach) (v : ℕ) (r : Reach) (v_within : v < length reached) where
  -- a fact of each vertex, after what is known of v is written
  after_set : (P : Reach → Type 0) (u : ℕ) → (u ≡ v → P r) → (u ≢ v → P (reach_of reached u)) → P (reach_of (slice_set reached v r) u)
  after_set P u at_v other =
      ⊎_elim
      (λ (e : u ≡ v). subst P (sym (ap (reach_of (slice_set reached v r)) e ∙ reach_of-set_same reached v r v_within)) (at_v e))
      (λ (ne : u ≢ v). subst P (sym (reach_of-set_other reached v u r ne)) (other ne))
      (cases_eq u v)

  -- v, which waits, is lowered further
  pub IsGrouped-lower : (places : List ℕ) (w t : ℕ) → w ≤ t → IsGrouped reached places w t → slice_index places v < w → pos 0 <ℤ r.lowered → r.rank ≡ UNSETTLED → IsGrouped (slice_set reached v r) places w t
  IsGrouped-lower places w t le g waits lowered rank =
      let n = length-set reached v r in
      record {
        waits = λ u h p. after_set (λ x. (pos 0 <ℤ x.lowered) × (x.rank ≡ UNSETTLED)) u (λ e. (lowered, rank)) (λ ne. g.waits u (omega arith) p);
        settled = λ u h p q. after_set (λ x. (pos 0 <ℤ x.lowered) × (x.rank < t - w)) u (λ e. let x = ap (slice_index places) e in absurd (omega arith)) (λ ne. g.settled u (omega arith) p q);
        beyond = λ u h p. after_set (λ x. x ≡ unreached) u (λ e. let x = ap (slice_index places) e in absurd (omega arith)) (λ ne. g.beyond u (omega arith) p);
      }

  -- v, which was not reached, joins those that wait
  pub IsGrouped-join : (items places items' places' : List ℕ) (w t : ℕ) → length items ≡ length reached → w ≤ t → IsGrouped reached places w t → JoinsWaiting w t items places items' places' v → pos 0 <ℤ r.lowered → r.rank ≡ UNSETTLED → IsGrouped (slice_set reached v r) places' (w + 1) (t + 1)
  IsGrouped-join items places items' places' w t len le g j lowered rank =
      let n = length-set reached v r in
      record {
        waits = λ u h p. after_set (λ x. (pos 0 <ℤ x.lowered) × (x.rank ≡ UNSETTLED)) u (λ e. (lowered, rank))
            (λ ne. ⊎_elim
            (λ (a : slice_index places u < w). g.waits u (omega arith) a)
            (λ (b : w ≤ slice_index places u). ⊎_elim
            (λ (a : slice_index places u < t). let x = j.settled_stay u (omega arith) b a in absurd (omega arith))
            (λ (a : t ≤ slice_index places u). let x = j.others_stay u (omega arith) ne a in absurd (omega arith))
            (cases_lt (slice_index places u) t))
            (cases_lt (slice_index places u) w));
        settled = λ u h p q. after_set (λ x. (pos 0 <ℤ x.lowered) × (x.rank < (t + 1) - (w + 1))) u
            (λ e. let x = ap (slice_index places') e in let y = j.joined in absurd (omega arith))
            (λ ne. ⊎_elim
            (λ (a : slice_index places u < w). let x = j.waiting_stay u (omega arith) a in absurd (omega arith))
            (λ (b : w ≤ slice_index places u). ⊎_elim
            (λ (a : slice_index places u < t). let x = g.settled u (omega arith) b a in (x.0, omega arith))
            (λ (a : t ≤ slice_index places u). let x = j.others_stay u (omega arith) ne a in absurd (omega arith))
            (cases_lt (slice_index places u) t))
            (cases_lt (slice_index places u) w));
        beyond = λ u h p. after_set (λ x. x ≡ unreached) u
            (λ e. let x = ap (slice_index places') e in let y = j.joined in absurd (omega arith))
            (λ ne. ⊎_elim
            (λ (a : slice_index places u < w). let x = j.waiting_stay u (omega arith) a in absurd (omega arith))
            (λ (b : w ≤ slice_index places u). ⊎_elim
            (λ (a : slice_index places u < t). let x = j.settled_stay u (omega arith) b a in absurd (omega arith))
            (λ (a : t ≤ slice_index places u). g.beyond u (omega arith) a)
            (cases_lt (slice_index places u) t))
            (cases_lt (slice_index places u) w));
      }

-- the first of those that wait changes places with the last, and is settled
pub IsGrouped-settle : (reached : List Reach) (v : ℕ) (r : Reach) (items places items' places' : List ℕ) (w t : ℕ) → v < length reached → IsPaired items places → length items ≡ length reached → w + 1 ≤ t → t ≤ length items → IsGrouped reached places (w + 1) t → v ≡ slice_index items 0 → Exchanges 0 w items places items' places' → pos 0 <ℤ r.lowered → r.rank ≡ t - (w + 1) → IsGrouped (slice_set reached v r) places' w t
IsGrouped-settle reached v r items places items' places' w t v_within paired len le le_t g first exchanged lowered rank =
    let at_v : slice_index places' v ≡ w = ap (slice_index places') first ∙ exchanged.first in
    let at_last = exchanged.second in
    let n = length-set reached v r in
    let last = slice_index items w in
    let place_of_last = paired.item_at w (omega arith) in
    let place_of_v = paired.item_at 0 (omega arith) in
    let v_place : slice_index places v ≡ 0 = ap (slice_index places) first ∙ place_of_v.1 in
    record {
      waits = λ u h p. after_set reached v r v_within (λ x. (pos 0 <ℤ x.lowered) × (x.rank ≡ UNSETTLED)) u
          (λ e. let x = ap (slice_index places') e in absurd (omega arith))
          (λ ne. ⊎_elim
          (λ (e : u ≡ last). let x = ap (slice_index places) e in g.waits u (omega arith) (omega (arith, place_of_last.1)))
          (λ (ne2 : u ≢ last). let x = exchanged.others u (λ z. ne (z ∙ sym first)) ne2 in g.waits u (omega arith) (omega arith))
          (cases_eq u last));
      settled = λ u h p q. after_set reached v r v_within (λ x. (pos 0 <ℤ x.lowered) × (x.rank < t - w)) u
          (λ e. (lowered, omega arith))
          (λ ne. ⊎_elim
          (λ (e : u ≡ last). let x = ap (slice_index places') e in let z : w ≡ 0 = omega arith in absurd (ne (e ∙ ap (slice_index items) z ∙ sym first)))
          (λ (ne2 : u ≢ last). let x = exchanged.others u (λ z. ne (z ∙ sym first)) ne2 in
          let y : slice_index places u ≢ w = λ z. ne2 (sym (paired.place_of u (omega arith)).1 ∙ ap (slice_index items) z) in
          let z = g.settled u (omega arith) (omega arith) (omega arith) in
          (z.0, omega arith))
          (cases_eq u last));
      beyond = λ u h p. after_set reached v r v_within (λ x. x ≡ unreached) u
          (λ e. let x = ap (slice_index places') e in absurd (omega arith))
          (λ ne. ⊎_elim
          (λ (e : u ≡ last). let x = ap (slice_index places') e in absurd (omega arith))
          (λ (ne2 : u ≢ last). let x = exchanged.others u (λ z. ne (z ∙ sym first)) ne2 in g.beyond u (omega arith) (omega arith))
          (cases_eq u last));
    }

-- two exchanges put v behind those that wait
module _ (w t v p : ℕ) (items places items1 places1 items2 places2 : List ℕ) where
  pub JoinsWaiting-exchanges : IsPaired items places → IsPaired items1 places1 → IsPaired items2 places2 → v < length items → w ≤ t → p ≡ slice_index places v → t ≤ slice_index places v → Exchanges p t items places items1 places1 → Exchanges t w items1 places1 items2 places2 → JoinsWaiting w t items places items2 places2 v
  JoinsWaiting-exchanges paired paired1 paired2 within le place beyond x1 x2 =
      let v_at = subst (λ x. (x < length items) × (slice_index items x ≡ v)) (sym place) (paired.place_of v within) in
      let len1 : length items1 ≡ length items = ap length x1.swapped ∙ length-swap items p t in
      let len2 : length items2 ≡ length items1 = ap length x2.swapped ∙ length-swap items1 t w in
      let s1 = swapped_from_swap items items1 p t 0 v_at.0 (omega arith) x1.swapped in
      let s2 = swapped_from_swap items1 items2 t w 0 (omega arith) (omega arith) x2.swapped in
      let first_at : slice_index items1 t ≡ v = s1.1 ∙ v_at.1 in
      let joined : slice_index places2 v ≡ w = ap (slice_index places2) (sym first_at) ∙ x2.first in
      let at_t = paired.item_at t (omega arith) in
      let at_w = paired1.item_at w (omega arith) in
      let once : (u : ℕ) → u ≢ v → slice_index places u ≢ t → u < length items → slice_index places1 u ≡ slice_index places u =
      λ u ne ne2 h. x1.others u (λ e. ne (e ∙ v_at.1)) (λ e. ne2 (ap (slice_index places) e ∙ at_t.1))
      in
      let twice : (u : ℕ) → u ≢ v → slice_index places1 u ≢ w → slice_index places2 u ≡ slice_index places1 u =
      λ u ne ne2. x2.others u (λ e. ne (e ∙ first_at)) (λ e. ne2 (ap (slice_index places1) e ∙ at_w.1))
      in
      let apart : (u : ℕ) → slice_index places u ≢ slice_index places v → u ≢ v = λ u ne e. ne (ap (slice_index places) e) in
      record {
        as_long = len2 ∙ len1;
        joined = joined;
        item = ap (slice_index items2) (sym joined) ∙ (paired2.place_of v (omega arith)).1;
        items_stay = λ i h. s2.2 i (omega arith) (omega arith) ∙ s1.2 i (omega arith) (omega arith);
        waiting_stay = λ u h q.
            let ne : u ≢ v = apart u (omega arith) in
            let a = once u ne (omega arith) h in
            twice u ne (omega arith) ∙ a;
        settled_stay = λ u h q r.
            let ne : u ≢ v = apart u (omega arith) in
            let a = once u ne (omega arith) h in
            ⊎_elim
            (λ (e : slice_index places1 u ≡ w).
            let same : u ≡ slice_index items1 w = sym (paired1.place_of u (omega arith)).1 ∙ ap (slice_index items1) e in
            let b : slice_index places2 u ≡ t = ap (slice_index places2) same ∙ x2.second in
            (omega arith, omega arith))
            (λ (ne2 : slice_index places1 u ≢ w). let b = twice u ne ne2 in (omega arith, omega arith))
            (cases_eq (slice_index places1 u) w);
        others_stay = λ u h ne q.
            ⊎_elim
            (λ (e : slice_index places u ≡ t).
            let same : u ≡ slice_index items t = sym (paired.place_of u h).1 ∙ ap (slice_index items) e in
            let a : slice_index places1 u ≡ p = ap (slice_index places1) same ∙ x1.second in
            let apart2 : p ≢ t = λ z. ne (same ∙ ap (slice_index items) (sym z) ∙ v_at.1) in
            let b = twice u ne (omega arith) in
            omega arith)
            (λ (ne2 : slice_index places u ≢ t).
            let a = once u ne ne2 h in
            let b = twice u ne (omega arith) in
            omega arith)
            (cases_eq (slice_index places u) t);
      }
