-- What holds of each element of a list.
use Rattle.std.proofs.Common.{ℕ, ◌+◌, ◌<◌, ◌≤◌, List, [], ◌∷◌, get_or, drop, length, map}
use Rattle.std.specs.List.{AllByRecursion}
use Rattle.std.proofs.lemmas.List.{drop_more, drop_all}

-- of the elements and of what they stand for
pub all-seen : {A B : Type 0} (f : A → B) (P : B → Type 0) (xs : List A) → AllByRecursion (λ x. P (f x)) xs → AllByRecursion P (map f xs)
all-seen f P [] all = tt
all-seen f P (x ∷ xs) all = (all.0, all-seen f P xs all.1)

module _ {A : Type 0} (P : A → Type 0) where
  -- it holds of all where it holds of those from a place on
  abbrev pub Left : List A → ℕ → Type 0
  Left xs i = AllByRecursion P (drop i xs) → AllByRecursion P xs

  pub none-seen : (xs : List A) → Left xs 0
  none-seen xs all = all

  pub one-seen : (xs : List A) (i : ℕ) (d : A) → i < length xs → P (get_or xs i d) → Left xs i → Left xs (i + 1)
  one-seen xs i d below holds left all = left (rw (drop_more xs i d below) (holds, all))

  pub over-seen : (xs : List A) (i : ℕ) → length xs ≤ i → Left xs i → AllByRecursion P xs
  over-seen xs i over left = left (rw (drop_all i xs over) tt)
