-- The state of a search for an order.
use Rattle.std.specs.Prelude.{◌≡◌, ◌≢◌, ℕ, ◌+◌, ◌<◌, ◌⊎◌, Bool, true, false, List, [], ◌∷◌, map, length, All, AllPairs, Contains, slice_index_or, sum_by}
use Rattle.form_strata.specs.declared.order.Mark.{Mark}
use Rattle.form_strata.specs.declared.order.Mark.TheVariants.{Unseen, Open, Done}
use Rattle.form_strata.specs.declared.order.Search.{Search}
use Rattle.form_strata.specs.declared.order.Sorted.{Sorted}
use Rattle.form_strata.specs.declared.order.Sorted.TheVariants.{Order, Cycle}
use Rattle.form_strata.specs.SortGraph.{IsWalk}
use Rattle.form_strata.specs.Order.{IsBefore, IsOrder, IsCycle}
use Rattle.form_strata.specs.Places.{edge_at, places_at}

abbrev pub mark_at : List Mark → ℕ → Mark
mark_at marks v = slice_index_or marks v Unseen

abbrev pub is_done_mark : Mark → Bool
is_done_mark Unseen = false
is_done_mark Open = false
is_done_mark Done = true

-- the ends of each edge are below a number
abbrev pub AreEdgesBelow : List (ℕ × ℕ) → ℕ → Type 0
AreEdgesBelow graph n = (a b : ℕ) → Contains graph (a, b) → (a < n) × (b < n)

-- there is an edge from this vertex to the last one of a path, if it has any
abbrev pub LeadsOn : List (ℕ × ℕ) → List ℕ → ℕ → Type 0
LeadsOn graph [] from = Unit {0}
LeadsOn graph (v ∷ []) from = Contains graph (from, v)
LeadsOn graph (v ∷ u ∷ path) from = LeadsOn graph (u ∷ path) from

-- there is an edge to each vertex of a path from the next one
abbrev pub IsPath : List (ℕ × ℕ) → List ℕ → Type 0
IsPath graph [] = Unit {0}
IsPath graph (v ∷ []) = Unit {0}
IsPath graph (v ∷ u ∷ path) = Contains graph (u, v) × IsPath graph (u ∷ path)

-- the vertices that are done are in order, each behind those that lead to it, and those that are open are on the path
pub record IsState (graph : List (ℕ × ℕ)) (n : ℕ) (marks : List Mark) (path order : List ℕ) : Type 0 where
  pub size : length marks ≡ n
  pub done : (v : ℕ) → v < n → mark_at marks v ≡ Done → Contains order v
  pub ordered : (v : ℕ) → Contains order v → mark_at marks v ≡ Done
  pub small : All (λ v. v < n) order
  pub once : AllPairs (λ x y. x ≢ y) order
  pub forward : (a b : ℕ) → Contains graph (a, b) → Contains order b → IsBefore order a b
  pub on_path : IsPath graph path
  pub opened : (v : ℕ) → v < n → mark_at marks v ≡ Open → Contains path v
  pub path_small : All (λ v. v < n) path

-- each vertex has a list of places of edges to it, and an edge that is gone from them leads from a vertex that is done
pub record AreLeft (graph : List (ℕ × ℕ)) (marks : List Mark) (left : List (List ℕ)) : Type 0 where
  pub size : length left ≡ length marks
  pub sound : (k b : ℕ) → Contains (places_at left b) k → (k < length graph) × ((edge_at graph k).1 ≡ b)
  pub whole : (k : ℕ) → k < length graph → (mark_at marks (edge_at graph k).0 ≡ Done) ⊎ Contains (places_at left (edge_at graph k).1) k

pub record IsSearch (graph : List (ℕ × ℕ)) (n : ℕ) (s : Search) : Type 0 where
  pub state : IsState graph n s.marks.items s.path.items s.order.items
  pub left : AreLeft graph s.marks.items (map (λ l. l.items) s.left.items)

-- how much is left to do
abbrev pub weight : Mark → ℕ
weight Unseen = 2
weight Open = 0
weight Done = 0

abbrev pub work : Search → ℕ
work s = sum_by weight s.marks.items + length s.path.items

-- what sorting a graph gives
abbrev pub IsSorted : List (ℕ × ℕ) → ℕ → Sorted → Type 0
IsSorted graph vertices (Order order) = IsOrder graph vertices order.items
IsSorted graph vertices (Cycle cycle) = IsCycle graph cycle.items

-- in each graph in which the path ends at a vertex that one of its vertices leads to, this is a cycle
abbrev pub IsCycleFrom : List ℕ → ℕ → List ℕ → Type 0
IsCycleFrom path from cycle =
    (graph : List (ℕ × ℕ)) → IsPath graph path → Contains path from → LeadsOn graph path from → IsCycle graph cycle

-- the last vertex of a walk
abbrev pub last_of : ℕ → List ℕ → ℕ
last_of from [] = from
last_of from (v ∷ walk) = last_of v walk

-- a walk back along a path that will come to where it began
pub record IsTurn (graph : List (ℕ × ℕ)) (from : ℕ) (path cycle : List ℕ) : Type 0 where
  pub walked : List ℕ
  pub so_far : cycle ≡ from ∷ walked
  pub walk : IsWalk graph from walked
  pub on_path : IsPath graph path
  pub ahead : Contains path from
  pub leads : LeadsOn graph path (last_of from walked)

-- in each graph, a search with an empty path has seen this vertex too, and goes on from it if it was new
abbrev pub IsBegun : Search → ℕ → Search → Type 0
IsBegun old start new =
    (graph : List (ℕ × ℕ)) → IsSearch graph (length old.marks.items) old → old.path.items ≡ []
    → IsSearch graph (length old.marks.items) new
    × ((v : ℕ) → (mark_at old.marks.items v ≢ Unseen) ⊎ (v ≡ start) → mark_at new.marks.items v ≢ Unseen)
