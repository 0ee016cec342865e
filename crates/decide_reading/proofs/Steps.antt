-- The steps of loops.
use Rattle.std.proofs.Common.{◌≡◌, ℕ, ◌+◌, ◌<◌, Bool, refl, List, [], ◌∷◌, ◌++◌, map, ap, arith, Some, slice_get, inl, inr, subst, length, ◌≤◌, take, get_or, sym, ◌∙◌}
use Rattle.std.proofs.lemmas.Bool.{cases_lt}
use Rattle.std.specs.Prelude.{position, Contains}
use Rattle.std.specs.List.{range_with_len, position_or_len}
use Rattle.std.proofs.lemmas.List.FromFn.{map-range_with_len_more}
use Rattle.std.proofs.lemmas.List.{map_more}
use Rattle.decide_models.proofs.Steps.{slice_within}
use Rattle.form_terms.proofs.Lists.{Contains-head, Contains-tail}

pub map_range_more : {X : Type 0} (f : ℕ → X) (n : ℕ) → map f (range_with_len 0 (n + 1)) ≡ map f (range_with_len 0 n) ++ f n ∷ []
map_range_more f n = map-range_with_len_more f 0 n n (omega arith)

len_same : {X : Type 0} (p q : X → Bool) (xs : List X) → ((x : X) → Contains xs x → p x ≡ q x) → position_or_len p xs ≡ position_or_len q xs
len_same p q [] h = refl
len_same p q (x ∷ xs) h =
    let here : p x ≡ q x = h x (Contains-head x xs) in
    let later : position_or_len p xs ≡ position_or_len q xs = len_same p q xs (λ y c. h y (Contains-tail x xs y c)) in cc

-- two tests that agree at the items of a list find the same first place
pub position_same : {X : Type 0} (p q : X → Bool) (xs : List X) → ((x : X) → Contains xs x → p x ≡ q x) → position p xs ≡ position q xs
position_same p q xs h = let e : position_or_len p xs ≡ position_or_len q xs = len_same p q xs h in cc

-- what holds at each place below one, and at this one
pub so_more : {X : Type 0} (P : ℕ → X → Type 0) (xs : List X) (k : ℕ) → ((j : ℕ) (x : X) → j < k → slice_get xs j ≡ Some x → P j x) → ((x : X) → slice_get xs k ≡ Some x → P k x)
    → (j : ℕ) (x : X) → j < k + 1 → slice_get xs j ≡ Some x → P j x
so_more {X} P xs k before here j x less e =
    elim (cases_lt j k) [
      | inl lt ↦ before j x lt e
      | inr more ↦
          let same : k ≡ j = omega arith in
          let Q : ℕ → Type 0 = λ j. slice_get xs j ≡ Some x → P j x in subst Q same (here x) e
    ]

pub so_within : {X : Type 0} (P : ℕ → X → Type 0) (xs : List X) (k : ℕ) → length xs ≤ k → ((j : ℕ) (x : X) → j < k → slice_get xs j ≡ Some x → P j x)
    → (j : ℕ) (x : X) → slice_get xs j ≡ Some x → P j x
so_within P xs k all before j x e = before j x (omega (arith, all, slice_within xs j x e)) e

-- one more item, for a map
pub mapped_more : {X Y : Type 0} (f : X → Y) (xs : List X) (i : ℕ) (d : X) (old new : List Y) (y : Y) → i < length xs → old ≡ map f (take i xs) → y ≡ f (get_or xs i d) → new ≡ old ++ y ∷ []
    → new ≡ map f (take (i + 1) xs)
mapped_more f xs i d old new y lt was own e =
    e ∙ (ap (λ ys. ys ++ y ∷ []) was ∙ (ap (λ y. map f (take i xs) ++ y ∷ []) own ∙ sym (map_more f xs i d lt)))
