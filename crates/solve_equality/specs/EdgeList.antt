-- How edges are stored.
use Rattle.std.specs.Prelude.{◌≢◌, ℕ, ◌<◌, ◌≤◌, ◌^◌, List, Option, Some, None, length, map, slice_index_or, MatchOption}
use Rattle.solve_equality.specs.declared.edges.Edge.{Edge}
use Rattle.solve_equality.specs.Edges.{IsNewestBelow}

-- the ends of an edge
abbrev pub ends_of : Option Edge → Option (ℕ × ℕ)
ends_of None = None
ends_of (Some e) = Some (e.left, e.right)

-- the ends are two of the terms, and at each the edge that is stored is the newest of a smaller number
pub record IsSoundEdge (pairs : List (Option (ℕ × ℕ))) (terms k : ℕ) (e : Edge) : Type 0 where
  pub left_in : e.left < terms
  pub right_in : e.right < terms
  pub apart : e.left ≢ e.right
  pub left_older : IsNewestBelow pairs e.left k e.left_older
  pub right_older : IsNewestBelow pairs e.right k e.right_older

-- `newest` has the newest edge at each term, each edge the next older ones, and there is room for `limit` numbers
pub record IsSoundEdges (list : List (Option Edge)) (newest : List (Option ℕ)) (limit capacity : ℕ) : Type 0 where
  pub small : limit < 2 ^ 32
  pub room : limit ≤ capacity
  pub fits : length list ≤ limit
  pub at_terms : (t : ℕ) → t < length newest → IsNewestBelow (map ends_of list) t (length list) (slice_index_or newest t None)
  pub at_edges : (k : ℕ) → k < length list → MatchOption (slice_index_or list k None) (Unit {0}) (IsSoundEdge (map ends_of list) (length newest) k)
