-- Facts about trails: look-ups, and that a trail is no longer than there are variables.
use Rattle.std.proofs.Common.{◌≡◌, ℕ, zero, suc, ◌+◌, ◌-◌, ◌<◌, ◌≤◌, Bool, true, false, eqb, List, [], ◌∷◌, ◌++◌, length, get_or, take, reverse, Option, Some, None, refl, sym, ap, ◌∙◌, arith, inl, inr}
use Rattle.std.specs.List.{All}
use Rattle.std.specs.Option.{is_some, option_map}
use Rattle.std.proofs.lemmas.List.{length-reverse, reverse-reverse, reverse-append, get_or-reverse, take_more}
use Rattle.std.proofs.lemmas.List.Elements.{All-nil, All-cons}
use Rattle.std.proofs.lemmas.Bool.{eq-eqb, ne_eqb, cases_eq, cond-true, cond-false}
use Rattle.solve_solver.specs.declared.literal.PLit.{PLit}
use Rattle.solve_solver.specs.declared.trail.Entry.{Entry}
use Rattle.solve_solver.specs.Trail.{value_in, literal_in, IsTrail}
use Rattle.solve_solver.specs.Assignment.{signed}

pub value_in-here : (e : Entry) (es : List Entry) (v : ℕ) → e.literal.var ≡ v → value_in (e ∷ es) v ≡ Some e.literal.plus
value_in-here e es v h = cond-true (eqb e.literal.var v) (Some e.literal.plus) (value_in es v) (eq-eqb e.literal.var v h)

pub value_in-other : (e : Entry) (es : List Entry) (v : ℕ) → ¬ (e.literal.var ≡ v) → value_in (e ∷ es) v ≡ value_in es v
value_in-other e es v h = cond-false (eqb e.literal.var v) (Some e.literal.plus) (value_in es v) (ne_eqb e.literal.var v h)

-- how many of the first variables are set
one_if : Bool → ℕ
one_if true = 1
one_if false = 0

set_count : ℕ → List Entry → ℕ
set_count zero es = 0
set_count (suc n) es = one_if (is_some (value_in es n)) + set_count n es

one_if-le : (b : Bool) → one_if b ≤ 1
unfolding one_if
one_if-le true = omega arith
one_if-le false = omega arith

set_count-le : (n : ℕ) (es : List Entry) → set_count n es ≤ n
unfolding set_count
set_count-le zero es = omega arith
set_count-le (suc n) es = omega (arith, one_if-le (is_some (value_in es n)), set_count-le n es)

set_count-above : (n : ℕ) (e : Entry) (es : List Entry) → n ≤ e.literal.var → set_count n (e ∷ es) ≡ set_count n es
unfolding set_count
set_count-above zero e es h = refl
set_count-above (suc n) e es h =
    let same = ap (λ o. one_if (is_some o)) (value_in-other e es n (λ q. absurd (omega arith))) in
    let rest = set_count-above n e es (omega arith) in
    omega (arith, same, rest)

set_count-push : (n : ℕ) (e : Entry) (es : List Entry) → value_in es e.literal.var ≡ None → e.literal.var < n → set_count n (e ∷ es) ≡ suc (set_count n es)
unfolding set_count one_if
set_count-push zero e es fresh h = absurd (omega arith)
set_count-push (suc n) e es fresh h = elim (cases_eq e.literal.var n) [
  | inl q ↦
      let now : one_if (is_some (value_in (e ∷ es) n)) ≡ 1 = ap (λ o. one_if (is_some o)) (value_in-here e es n q) in
      let before : one_if (is_some (value_in es n)) ≡ 0 = ap (λ o. one_if (is_some o)) (ap (value_in es) (sym q) ∙ fresh) in
      let rest = set_count-above n e es (omega arith) in
      omega (arith, now, before, rest)
  | inr q ↦
      let same = ap (λ o. one_if (is_some o)) (value_in-other e es n q) in
      let below : e.literal.var < n = omega (arith, q) in
      let rest = set_count-push n e es fresh below in
      omega (arith, same, rest)
]

set_count-nil : (n : ℕ) → set_count n [] ≡ 0
unfolding set_count one_if
set_count-nil zero = refl
set_count-nil (suc n) = omega (arith, set_count-nil n)

set_count-length : (n : ℕ) (es : List Entry) → IsTrail n es → set_count n es ≡ length es
set_count-length n [] h = set_count-nil n
set_count-length n (e ∷ es) h = omega (arith, set_count-push n e es h.1.0 h.0, set_count-length n es h.1.1)

-- a trail is no longer than there are variables
pub length-IsTrail : (n : ℕ) (es : List Entry) → IsTrail n es → length es ≤ n
length-IsTrail n es h = omega (arith, set_count-length n es h, set_count-le n es)

-- while a variable is not set, it is shorter
pub length-unset : (n : ℕ) (es : List Entry) (l : PLit) → IsTrail n es → l.var < n → value_in es l.var ≡ None → length es < n
length-unset n es l h below fresh =
    let e : Entry = record { literal = l; decided = false } in
    let longer : IsTrail n (e ∷ es) = (below, (fresh, h)) in
    omega (arith, length-IsTrail n (e ∷ es) longer)

-- each variable of a trail that is kept the other way round is below the number
pub IsTrail-within : (vars : ℕ) (es : List Entry) → IsTrail vars es → All (λ (e : Entry). e.literal.var < vars) es
IsTrail-within vars [] h = All-nil (λ (e : Entry). e.literal.var < vars)
IsTrail-within vars (e ∷ es) h = All-cons (λ (e : Entry). e.literal.var < vars) e es h.0 (IsTrail-within vars es h.1.1)

pub All-reversed : {X : Type 0} (P : X → Type 0) (xs : List X) → All P (reverse xs) → All P xs
All-reversed P xs h k d l =
    let n = length-reverse xs in
    let read : get_or xs k d ≡ get_or (reverse xs) (length (reverse xs) - 1 - k) d = sym (ap (λ t. get_or t k d) (reverse-reverse xs)) ∙ get_or-reverse (reverse xs) k d (omega (arith, n)) in
    rw read (h (length (reverse xs) - 1 - k) d (omega (arith, n)))

pub reversed_within : (vars : ℕ) (xs : List Entry) → IsTrail vars (reverse xs) → All (λ (e : Entry). e.literal.var < vars) xs
reversed_within vars xs h = All-reversed (λ (e : Entry). e.literal.var < vars) xs (IsTrail-within vars (reverse xs) h)

-- the latest of the first entries
pub reverse-take : {X : Type 0} (xs : List X) (n : ℕ) (d : X) → 0 < n → n ≤ length xs → reverse (take n xs) ≡ get_or xs (n - 1) d ∷ reverse (take (n - 1) xs)
reverse-take xs n d positive within =
    let back : n ≡ n - 1 + 1 = omega arith in
    let more : take n xs ≡ take (n - 1) xs ++ get_or xs (n - 1) d ∷ [] = ap (λ k. take k xs) back ∙ take_more xs (n - 1) d (omega arith) in
    ap reverse more ∙ reverse-append (take (n - 1) xs) (get_or xs (n - 1) d ∷ [])

option_map-None : {A B : Type 0} (f : A → B) (o : Option A) → option_map f o ≡ None → o ≡ None
option_map-None f None h = refl
option_map-None f (Some x) h = cc

-- a literal has no value where its variable has none
pub value_in-None : (es : List Entry) (l : PLit) → literal_in es l ≡ None → value_in es l.var ≡ None
value_in-None es l h = option_map-None (signed l) (value_in es l.var) h
