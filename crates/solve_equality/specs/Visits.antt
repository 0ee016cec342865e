-- What a search has come to.
use Rattle.std.specs.Prelude.{◌≡◌, ◌≢◌, ℕ, ◌<◌, ◌≤◌, ◌^◌, ◌==◌, Bool, true, false, List, length, drop, All, AllPairs, slice_index_or}
use Rattle.std.specs.List.{list_any}
use Rattle.solve_equality.specs.declared.visits.Visit.{Visit}

-- the visits, in order, and how many terms there are
pub record Visited : Type 0 where
  pub visits : List Visit
  pub terms : ℕ

-- the visit at a place
abbrev pub visit_at : List Visit → ℕ → Visit
visit_at visits k = slice_index_or visits k (record { term = 0; via = 0; from = 0 })

-- whether one of the visits is of the term
abbrev pub has_visited : List Visit → ℕ → Bool
has_visited visits term = list_any (λ v. v.term == term) visits

-- each term that is marked is visited at this place or later
abbrev pub MarkedFrom : List Visit → List Bool → ℕ → Type 0
MarkedFrom visits seen place = (t : ℕ) → t < length seen → slice_index_or seen t false ≡ true → has_visited (drop place visits) t ≡ true

-- no term is visited twice, `seen` has the terms that are, and there is room for all of them
pub record IsSoundVisits (visits : List Visit) (seen : List Bool) (capacity : ℕ) : Type 0 where
  pub small : length seen < 2 ^ 32
  pub room : length seen ≤ capacity
  pub within : All (λ v. v.term < length seen) visits
  pub once : AllPairs (λ v w. v.term ≢ w.term) visits
  pub marks : (t : ℕ) → t < length seen → slice_index_or seen t false ≡ has_visited visits t
