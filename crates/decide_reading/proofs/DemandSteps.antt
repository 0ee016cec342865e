-- The steps of loops.
use Rattle.std.proofs.Common.{◌≡◌, ℕ, ◌+◌, ◌<◌, ◌≤◌, List, arith, Some, slice_get, inl, inr, subst, length}
use Rattle.std.proofs.lemmas.Bool.{cases_lt}
use Rattle.std.proofs.lemmas.Option.{slice_get_within}

-- what holds at each place below one, and at this one
pub so_more : {X : Type 0} (P : ℕ → X → Type 0) (xs : List X) (k : ℕ) → ((j : ℕ) (x : X) → j < k → slice_get xs j ≡ Some x → P j x) → ((x : X) → slice_get xs k ≡ Some x → P k x)
    → (j : ℕ) (x : X) → j < k + 1 → slice_get xs j ≡ Some x → P j x
so_more {X} P xs k before here j x less e =
    elim (cases_lt j k) [
      | inl lt ↦ before j x lt e
      | inr more ↦
          let same : k ≡ j = omega arith in
          let Q : ℕ → Type 0 = λ j. slice_get xs j ≡ Some x → P j x in subst Q same (here x) e
    ]

pub so_within : {X : Type 0} (P : ℕ → X → Type 0) (xs : List X) (k : ℕ) → length xs ≤ k → ((j : ℕ) (x : X) → j < k → slice_get xs j ≡ Some x → P j x)
    → (j : ℕ) (x : X) → slice_get xs j ≡ Some x → P j x
so_within P xs k all before j x e = before j x (omega (arith, all, slice_get_within xs j x e)) e
