-- Orders and cycles of a graph.
use Rattle.std.specs.Prelude.{◌≡◌, ◌≢◌, ℕ, ◌<◌, List, [], ◌∷◌, ◌++◌, length, All, AllPairs, Contains, slice_index}
use Rattle.form_strata.specs.SortGraph.{IsWalk}

-- the first stands before the second
pub record IsBefore (order : List ℕ) (a b : ℕ) : Type 0 where
  pub first : ℕ
  pub second : ℕ
  pub rises : first < second
  pub within : second < length order
  pub at_first : slice_index order first ≡ a
  pub at_second : slice_index order second ≡ b

-- each sort stands in the order once, and each edge goes forward
pub record IsOrder (graph : List (ℕ × ℕ)) (sorts : ℕ) (order : List ℕ) : Type 0 where
  pub all : (sort : ℕ) → sort < sorts → Contains order sort
  pub only : All (λ sort. sort < sorts) order
  pub once : AllPairs (λ x y. x ≢ y) order
  pub forward : (a b : ℕ) → Contains graph (a, b) → IsBefore order a b

-- edges lead from the first sort through the others back to it
abbrev pub IsCycle : List (ℕ × ℕ) → List ℕ → Type 0
IsCycle graph [] = ⊥
IsCycle graph (from ∷ rest) = (through : List ℕ) × (rest ≡ through ++ from ∷ []) × IsWalk graph from rest
