-- A list's items by their places.
use Rattle.std.proofs.Common.{◌≡◌, ℕ, zero, suc, ◌+◌, ◌<◌, ◌≤◌, List, [], ◌∷◌, Some, None, Option, IfSome, length, get_or, arith, slice_get, inl, inr, Contains, subst, ap, map}
use Rattle.std.proofs.lemmas.Bool.{cases_lt}
use Rattle.std.proofs.lemmas.List.Elements.{Contains-get_or}
use Rattle.std.proofs.lemmas.Option.{gets}

pub item_at : {X : Type 0} (xs : List X) (i : ℕ) (x d : X) → slice_get xs i ≡ Some x → get_or xs i d ≡ x
item_at xs i x d e = grind (arith, gets)

pub slice_within : {X : Type 0} (xs : List X) (i : ℕ) (x : X) → slice_get xs i ≡ Some x → i < length xs
slice_within [] i x e = cc
slice_within (y ∷ xs) zero x e = omega arith
slice_within (y ∷ xs) (suc i) x e = omega (arith, slice_within xs i x e)

pub item_there : {X : Type 0} (xs : List X) (i : ℕ) (x : X) → slice_get xs i ≡ Some x → Contains xs x
item_there {X} xs i x e =
    let P : X → Type 0 = λ y. Contains xs y in
    subst P (item_at xs i x x e) (Contains-get_or xs i x (slice_within xs i x e))

pub slice_mapped : {X Y : Type 0} (f : X → Y) (xs : List X) (k : ℕ) (x : X) → slice_get xs k ≡ Some x → slice_get (map f xs) k ≡ Some (f x)
slice_mapped f [] k x e = cc
slice_mapped f (y ∷ xs) zero x e = let same : y ≡ x = cc in ap (λ x. Some (f x)) same
slice_mapped f (y ∷ xs) (suc k) x e = slice_mapped f xs k x e

-- what holds at each place below one, and at this one
pub so_more : {X : Type 0} (P : ℕ → X → Type 0) (xs : List X) (k : ℕ) → ((j : ℕ) (x : X) → j < k → slice_get xs j ≡ Some x → P j x) → ((x : X) → slice_get xs k ≡ Some x → P k x)
    → (j : ℕ) (x : X) → j < k + 1 → slice_get xs j ≡ Some x → P j x
so_more {X} P xs k before here j x less e =
    elim (cases_lt j k) [
      | inl lt ↦ before j x lt e
      | inr more ↦
          let same : k ≡ j = omega arith in
          let Q : ℕ → Type 0 = λ j. slice_get xs j ≡ Some x → P j x in subst Q same (here x) e
    ]

pub so_within : {X : Type 0} (P : ℕ → X → Type 0) (xs : List X) (k : ℕ) → length xs ≤ k → ((j : ℕ) (x : X) → j < k → slice_get xs j ≡ Some x → P j x)
    → (j : ℕ) (x : X) → slice_get xs j ≡ Some x → P j x
so_within P xs k all before j x e = before j x (omega (arith, all, slice_within xs j x e)) e

-- what holds of an answer, where it holds of what was given
pub some_too : {T : Type 0} (o : Option T) (P Q : T → Type 0) → ((x : T) → P x → Q x) → IfSome o P → IfSome o Q
some_too (Some x) P Q h k = h x k
some_too None P Q h k = tt
