-- The places in a graph of the edges to each vertex.
use Rattle.std.specs.Prelude.{◌≡◌, ℕ, ◌<◌, ◌⊎◌, List, [], length, Contains, slice_index_or}

abbrev pub edge_at : List (ℕ × ℕ) → ℕ → ℕ × ℕ
edge_at graph place = slice_index_or graph place (0, 0)

abbrev pub places_at : List (List ℕ) → ℕ → List ℕ
places_at places v = slice_index_or places v []

-- so many vertices have lists of places of edges to them, and each edge has its place there but for the first ones
pub record AreGrouped (graph : List (ℕ × ℕ)) (first vertices : ℕ) (places : List (List ℕ)) : Type 0 where
  pub size : length places ≡ vertices
  pub sound : (k b : ℕ) → Contains (places_at places b) k → (k < length graph) × ((edge_at graph k).1 ≡ b)
  pub whole : (k : ℕ) → k < length graph → (k < first) ⊎ Contains (places_at places (edge_at graph k).1) k
