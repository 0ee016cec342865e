-- Edges between terms.
use Rattle.std.specs.Prelude.{◌≡◌, ℕ, ◌<◌, ◌==◌, Bool, true, false, ◌||◌, ◌⊎◌, List, Option, Some, None, slice_index_or}

-- the two ends of the edge of each number, if it has one, how many terms there are, and how many numbers there can be
pub record Graph : Type 0 where
  pub pairs : List (Option (ℕ × ℕ))
  pub terms : ℕ
  pub capacity : ℕ

-- the ends of the edge of a number
abbrev pub pair_at : List (Option (ℕ × ℕ)) → ℕ → Option (ℕ × ℕ)
pair_at pairs k = slice_index_or pairs k None

-- whether the term is an end of the edge
abbrev pub mentions : ℕ → Option (ℕ × ℕ) → Bool
mentions term None = false
mentions term (Some ends) = (ends.0 == term) || (ends.1 == term)

-- the edge is one between these two terms
abbrev pub Joins : Option (ℕ × ℕ) → ℕ → ℕ → Type 0
Joins None s t = ⊥
Joins (Some ends) s t = ((ends.0 ≡ s) × (ends.1 ≡ t)) ⊎ ((ends.0 ≡ t) × (ends.1 ≡ s))

-- of the edges at the term that have a number below n, this is the one with the greatest number, if there are any
abbrev pub IsNewestBelow : List (Option (ℕ × ℕ)) → ℕ → ℕ → Option ℕ → Type 0
IsNewestBelow pairs term n None = (k : ℕ) → k < n → mentions term (pair_at pairs k) ≡ false
IsNewestBelow pairs term n (Some newest) =
    (newest < n) × (mentions term (pair_at pairs newest) ≡ true)
    × ((k : ℕ) → newest < k → k < n → mentions term (pair_at pairs k) ≡ false)
