-- Lists whose items are kept once.
use Rattle.std.proofs.Common.{◌≡◌, ℕ, ◌<◌, ◌+◌, Bool, true, false, cond, refl, sym, ◌∙◌, List, [], ◌∷◌, ◌++◌, length, get_or, drop, ap, drop-cons, subst, add-one}
use Rattle.std.specs.Prelude.{◌==◌, reverse}
use Rattle.std.specs.List.{list_any}
use Rattle.std.proofs.lemmas.List.{reverse-append}
use Rattle.std.proofs.lemmas.List.Sorted.{IsPermutation-reverse, list_any-IsPermutation}
use Rattle.std.proofs.lemmas.Bool.{eqb-true}
use Rattle.form_terms.specs.Listing.{unique}
use Rattle.form_terms.proofs.Kept.{nat_same, list_any-from, list_any-some}
use Rattle.form_terms.proofs.Listed.{from_unique, to_unique}

same_bools : (a b : Bool) → (a ≡ true → b ≡ true) → (b ≡ true → a ≡ true) → a ≡ b
same_bools true true h k = refl
same_bools true false h k = sym (h refl)
same_bools false true h k = k refl
same_bools false false h k = refl

any_unique : (p : ℕ → Bool) (xs : List ℕ) → list_any p (unique (λ j k. j == k) xs) ≡ list_any p xs
any_unique p xs =
    same_bools (list_any p (unique (λ j k. j == k) xs)) (list_any p xs)
    (λ e. let s = list_any-some p (unique (λ j k. j == k) xs) e in list_any-from p xs s.0 (from_unique (λ j k. j == k) xs s.0 s.1) s.2)
    (λ e. let s = list_any-some p xs e in list_any-from p (unique (λ j k. j == k) xs) s.0 (to_unique (λ j k. j == k) (λ j k e. eqb-true j k e) xs s.0 s.1) s.2)

any_reverse : (p : ℕ → Bool) (xs : List ℕ) → list_any p (reverse xs) ≡ list_any p xs
any_reverse p xs = sym (list_any-IsPermutation p xs (reverse xs) (IsPermutation-reverse xs))

kept_by : (x : ℕ) (xs : List ℕ) (b : Bool) → list_any (λ k. x == k) xs ≡ b
    → cond b (reverse (unique (λ j k. j == k) xs)) (reverse (unique (λ j k. j == k) xs) ++ x ∷ []) ≡ reverse (unique (λ j k. j == k) (x ∷ xs))
kept_by x xs true e = ap (λ b. reverse (cond b (unique (λ j k. j == k) xs) (x ∷ unique (λ j k. j == k) xs))) (sym e)
kept_by x xs false e =
    sym (reverse-append (x ∷ []) (unique (λ j k. j == k) xs)) ∙ ap (λ b. reverse (cond b (unique (λ j k. j == k) xs) (x ∷ unique (λ j k. j == k) xs))) (sym e)

same_flipped : (j k : ℕ) → (j == k) ≡ true → (k == j) ≡ true
same_flipped j k e = let P : ℕ → Type 0 = λ n. (k == n) ≡ true in subst P (sym (eqb-true j k e)) (nat_same k)

any_flipped : (x : ℕ) (xs : List ℕ) → list_any (λ k. k == x) xs ≡ list_any (λ k. x == k) xs
any_flipped x [] = refl
any_flipped x (y ∷ ys) =
    let here : (y == x) ≡ (x == y) = same_bools (y == x) (x == y) (same_flipped y x) (same_flipped x y) in
    let there = any_flipped x ys in cc

-- one more item, before those that were gone through
pub kept_step : (items kept new : List ℕ) (i : ℕ) → i < length items → kept ≡ reverse (unique (λ j k. j == k) (drop (i + 1) items))
    → new ≡ cond (list_any (λ k. k == get_or items i 0) kept) kept (kept ++ get_or items i 0 ∷ []) → new ≡ reverse (unique (λ j k. j == k) (drop i items))
kept_step items kept new i lt was step =
    let x = get_or items i 0 in
    let later = drop (i + 1) items in
    let one : drop i items ≡ x ∷ later = rw add-one (drop-cons items i 0 lt) in
    let p : ℕ → Bool = λ k. x == k in
    let test = list_any (λ k. k == x) kept in
    let any : test ≡ list_any p later = any_flipped x kept ∙ (ap (list_any p) was ∙ (any_reverse p (unique (λ j k. j == k) later) ∙ any_unique p later)) in
    step ∙ (ap (λ ks. cond test ks (ks ++ x ∷ [])) was ∙ (kept_by x later test (sym any) ∙ ap (λ xs. reverse (unique (λ j k. j == k) xs)) (sym one)))
