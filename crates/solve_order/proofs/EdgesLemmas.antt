-- What a literal more or less makes of the links.
use Rattle.std.proofs.Common.{◌≡◌, ◌≢◌, ℕ, ◌+◌, ◌-◌, ◌<◌, ◌≤◌, List, [], ◌∷◌, ◌++◌, length, IsTrue, slice_index, slice_set, ⊎_elim, refl, sym, ap, ◌∙◌, subst, arith, pos, get_or-set_same, get_or-set_other}
use Rattle.std.proofs.lemmas.Bool.{cases_eq, cases_lt}
use Rattle.std.proofs.lemmas.List.{length-set, length_push, get_or_push, get_or_append_left}
use Rattle.solve_order.specs.declared.diff.Diff.{Diff}
use Rattle.solve_order.specs.Difference.{is_literal}
use Rattle.solve_order.specs.Edges.{literal_at, IsLastFrom, IsLinked}
use Rattle.solve_order.proofs.DifferenceLemmas.{IsLiteral-from_test}

-- only the first n literals matter
pub IsLastFrom-same : (ls ls' : List Diff) (n v last : ℕ) → ((k : ℕ) → k < n → literal_at ls' k ≡ literal_at ls k) → IsLastFrom ls n v last → IsLastFrom ls' n v last
IsLastFrom-same ls ls' n v last same h = record {
  below = h.below;
  leads = λ some. let x = h.below in ap (λ (l : Diff). l.y) (same (last - 1) (omega arith)) ∙ h.leads some;
  none_after = λ k b1 b2 e. h.none_after k b1 b2 (ap (λ (l : Diff). l.y) (sym (same k b2)) ∙ e);
}

-- one more literal, which leads from v
pub IsLastFrom-here : (ls : List Diff) (n v : ℕ) → (literal_at ls n).y ≡ v → IsLastFrom ls (n + 1) v (n + 1)
IsLastFrom-here ls n v e = record {
  below = omega arith;
  leads = λ some. let x : n + 1 - 1 ≡ n = omega arith in ap (λ k. (literal_at ls k).y) x ∙ e;
  none_after = λ k b1 b2. absurd (omega arith);
}

-- one more literal, which leads from another vertex
pub IsLastFrom-passed : (ls : List Diff) (n v last : ℕ) → (literal_at ls n).y ≢ v → IsLastFrom ls n v last → IsLastFrom ls (n + 1) v last
IsLastFrom-passed ls n v last ne h = record {
  below = let x = h.below in omega arith;
  leads = h.leads;
  none_after = λ k b1 b2 e.
      ⊎_elim
      (λ (a : k < n). h.none_after k b1 a e)
      (λ (a : n ≤ k). let x : n ≡ k = omega arith in ne (ap (λ i. (literal_at ls i).y) x ∙ e))
      (cases_lt k n);
}

-- one literal less, which led from another vertex
pub IsLastFrom-back : (ls : List Diff) (n v last : ℕ) → (literal_at ls n).y ≢ v → IsLastFrom ls (n + 1) v last → IsLastFrom ls n v last
IsLastFrom-back ls n v last ne h = record {
  below =
      ⊎_elim
      (λ (a : last < n + 1). let x : last ≤ n = omega arith in x)
      (λ (a : n + 1 ≤ last). let b = h.below in let x : last - 1 ≡ n = omega arith in absurd (ne (ap (λ k. (literal_at ls k).y) (sym x) ∙ h.leads (omega arith))))
      (cases_lt last (n + 1));
  leads = h.leads;
  none_after = λ k b1 b2. h.none_after k b1 (omega arith);
}

pub IsLinked-push : (ls : List Diff) (es hs : List ℕ) (l : Diff) (last : ℕ) → IsLinked ls es hs → IsTrue (is_literal (length hs) l) → last ≡ slice_index hs l.y → IsLinked (ls ++ l ∷ []) (es ++ last ∷ []) (slice_set hs l.y (length ls + 1))
IsLinked-push ls es hs l last h fits e =
    let y_within = (IsLiteral-from_test (length hs) l fits).y_within in
    let long : length (ls ++ l ∷ []) ≡ length ls + 1 = length_push ls l in
    let heads : length (slice_set hs l.y (length ls + 1)) ≡ length hs = length-set hs l.y (length ls + 1) in
    let before : (k : ℕ) → k < length ls → literal_at (ls ++ l ∷ []) k ≡ literal_at ls k = λ k b. get_or_append_left ls (l ∷ []) (record { x = 0; y = 0; c = pos 0 }) k b in
    let here : literal_at (ls ++ l ∷ []) (length ls) ≡ l = get_or_push ls l (record { x = 0; y = 0; c = pos 0 }) (length ls) refl in
    let earlier_before : (k : ℕ) → k < length es → slice_index (es ++ last ∷ []) k ≡ slice_index es k = λ k b. get_or_append_left es (last ∷ []) 0 k b in
    let earlier_here : slice_index (es ++ last ∷ []) (length ls) ≡ last = get_or_push es last 0 (length ls) h.as_long in
    record {
      as_long = length_push es last ∙ ap (λ n. n + 1) h.as_long ∙ sym long;
      literals_fit = λ p b.
          ⊎_elim
          (λ (a : p < length ls). rw (heads, before p a) (h.literals_fit p a))
          (λ (a : length ls ≤ p). let x : p ≡ length ls = omega arith in rw (heads, x, here) fits)
          (cases_lt p (length ls));
      chained = λ p b.
          ⊎_elim
          (λ (a : p < length ls).
          let f = h.chained p a in
          rw (before p a, earlier_before p (let z = h.as_long in omega arith))
          (IsLastFrom-same ls (ls ++ l ∷ []) p (literal_at ls p).y (slice_index es p) (λ k b2. before k (omega arith)) f))
          (λ (a : length ls ≤ p).
          let x : p ≡ length ls = omega arith in
          rw (x, here, earlier_here, e)
          (IsLastFrom-same ls (ls ++ l ∷ []) (length ls) l.y (slice_index hs l.y) before (h.headed l.y y_within)))
          (cases_lt p (length ls));
      headed = λ v b.
          ⊎_elim
          (λ (same : v ≡ l.y).
          rw (long, same, get_or-set_same hs l.y (length ls + 1) 0 y_within)
          (IsLastFrom-here (ls ++ l ∷ []) (length ls) l.y (ap (λ (d : Diff). d.y) here)))
          (λ (ne : v ≢ l.y).
          rw (long, get_or-set_other hs l.y v (length ls + 1) 0 ne)
          (IsLastFrom-passed (ls ++ l ∷ []) (length ls) v (slice_index hs v) (λ q. ne (sym q ∙ ap (λ (d : Diff). d.y) here))
          (IsLastFrom-same ls (ls ++ l ∷ []) (length ls) v (slice_index hs v) before (h.headed v (omega arith)))))
          (cases_eq v l.y);
    }

pub IsLinked-pop : (ls ls' : List Diff) (es es' hs : List ℕ) (l : Diff) (last : ℕ) → ls ≡ ls' ++ l ∷ [] → es ≡ es' ++ last ∷ [] → IsLinked ls es hs → IsLinked ls' es' (slice_set hs l.y last)
IsLinked-pop ls ls' es es' hs l last cut cut_es h =
    let none : Diff = record { x = 0; y = 0; c = pos 0 } in
    let long : length ls ≡ length ls' + 1 = ap length cut ∙ length_push ls' l in
    let long_es : length es ≡ length es' + 1 = ap length cut_es ∙ length_push es' last in
    let as_long : length es' ≡ length ls' = let x = h.as_long in omega arith in
    let heads : length (slice_set hs l.y last) ≡ length hs = length-set hs l.y last in
    let before : (k : ℕ) → k < length ls' → literal_at ls' k ≡ literal_at ls k = λ k b. sym (ap (λ xs. literal_at xs k) cut ∙ get_or_append_left ls' (l ∷ []) none k b) in
    let here : literal_at ls (length ls') ≡ l = ap (λ xs. literal_at xs (length ls')) cut ∙ get_or_push ls' l none (length ls') refl in
    let earlier_before : (k : ℕ) → k < length ls' → slice_index es' k ≡ slice_index es k = λ k b. sym (ap (λ xs. slice_index xs k) cut_es ∙ get_or_append_left es' (last ∷ []) 0 k (omega arith)) in
    let earlier_here : slice_index es (length ls') ≡ last = ap (λ xs. slice_index xs (length ls')) cut_es ∙ get_or_push es' last 0 (length ls') as_long in
    let y_within = (IsLiteral-from_test (length hs) l (subst (λ d. IsTrue (is_literal (length hs) d)) here (h.literals_fit (length ls') (omega arith)))).y_within in
    record {
      as_long = as_long;
      literals_fit = λ p b. rw (heads, before p b) (h.literals_fit p (omega arith));
      chained = λ p b.
          rw (before p b, earlier_before p b)
          (IsLastFrom-same ls ls' p (literal_at ls p).y (slice_index es p) (λ k b2. before k (omega arith)) (h.chained p (omega arith)));
      headed = λ v b.
          ⊎_elim
          (λ (same : v ≡ l.y).
          rw (same, get_or-set_same hs l.y last 0 y_within)
          (subst (λ w. IsLastFrom ls' (length ls') w last) (ap (λ (d : Diff). d.y) here)
          (subst (λ w. IsLastFrom ls' (length ls') (literal_at ls (length ls')).y w) earlier_here
          (IsLastFrom-same ls ls' (length ls') (literal_at ls (length ls')).y (slice_index es (length ls')) before (h.chained (length ls') (omega arith))))))
          (λ (ne : v ≢ l.y).
          rw (get_or-set_other hs l.y v last 0 ne)
          (IsLastFrom-same ls ls' (length ls') v (slice_index hs v) before
          (IsLastFrom-back ls (length ls') v (slice_index hs v) (λ q. ne (sym q ∙ ap (λ (d : Diff). d.y) here))
          (subst (λ n. IsLastFrom ls n v (slice_index hs v)) long (h.headed v (omega arith))))))
          (cases_eq v l.y);
    }
