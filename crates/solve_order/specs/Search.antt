-- The search for a potential that meets one more literal.
use Rattle.std.specs.Prelude.{◌≡◌, ◌≢◌, ◌==◌, ◌⊎◌, ℕ, ◌-◌, ◌^◌, ◌<◌, ◌≤◌, List, length, ℤ, pos, neg_ℤ, ◌+ℤ◌, ◌-ℤ◌, ◌≤ℤ◌, ◌<ℤ◌, slice_set, count_by}
use Rattle.solve_order.specs.declared.diff.Diff.{Diff}
use Rattle.solve_order.specs.declared.frontier.TheConstants.{UNSETTLED}
use Rattle.solve_order.specs.declared.frontier.Reach.{Reach}
use Rattle.solve_order.specs.declared.search.Closing.{Closing}
use Rattle.solve_order.specs.declared.search.Edge.{Edge}
use Rattle.solve_order.specs.declared.search.Search.{Search}
use Rattle.solve_order.specs.Difference.{value_of}
use Rattle.solve_order.specs.Edges.{literal_at}
use Rattle.solve_order.specs.Potential.{IsAssignment, Meets, IsPotential}
use Rattle.solve_order.specs.Reach.{reach_of, IsExplored}

-- by how much the end of an edge has to be lowered, since its start is
abbrev pub needed : List ℤ → List Reach → Edge → ℤ
needed values reached e = (reach_of reached e.from).lowered -ℤ ((value_of values e.from +ℤ e.bound) -ℤ value_of values e.to)

abbrev pub lowered_value : List ℤ → List Reach → ℕ → ℤ
lowered_value values reached v = value_of values v -ℤ (reach_of reached v).lowered

-- the end of an edge is lowered as far as the edge asks, unless it is already
abbrev pub Relaxes : List ℤ → Edge → List Reach → List Reach → Type 0
Relaxes values e old new =
    ((needed values old e ≤ℤ (reach_of old e.to).lowered) × (new ≡ old)) ⊎
    (((reach_of old e.to).lowered <ℤ needed values old e) × ((reach_of old e.to).rank ≡ UNSETTLED) × (new ≡ slice_set old e.to (record { lowered = needed values old e; rank = UNSETTLED; from = e.from; via = e.via })))

-- an edge is a literal, or a bound of the range: each assignment that meets it has `to` at most at `from` and the bound
pub record IsEdge (literals : List Diff) (variables : ℕ) (e : Edge) : Type 0 where
  pub implied : (m : List ℤ) → IsAssignment variables m → (0 < e.via → Meets m (literal_at literals (e.via - 1))) → value_of m e.to ≤ℤ (value_of m e.from +ℤ e.bound)
  pub within : e.via ≤ length literals
  pub ends : 0 < e.via → (literal_at literals (e.via - 1)).x ≡ e.to

-- an edge over the vertices that the values meet
pub record IsMetEdge (literals : List Diff) (values : List ℤ) (e : Edge) : Type 0 where
  pub edge : IsEdge literals (length values) e
  pub to_within : e.to < length values
  pub low : neg_ℤ (pos (2 ^ 66)) ≤ℤ e.bound
  pub high : e.bound ≤ℤ pos (2 ^ 66)
  pub met : value_of values e.to ≤ℤ (value_of values e.from +ℤ e.bound)

-- the edge by which v was lowered, with the bound by which it was
abbrev pub lowering_edge : List ℤ → List Reach → ℕ → Edge
lowering_edge values reached v =
    let r = reach_of reached v in
    record { from = r.from; to = v; bound = lowered_value values reached v -ℤ lowered_value values reached r.from; via = r.via }

-- v was lowered by an edge from a vertex that was settled before it
pub record IsLoweredBy (literals : List Diff) (values : List ℤ) (reached : List Reach) (v : ℕ) : Type 0 where
  pub from_within : (reach_of reached v).from < length values
  pub before : (reach_of reached (reach_of reached v).from).rank < (reach_of reached v).rank
  pub edge : IsEdge literals (length values) (lowering_edge values reached v)

-- a search that goes out from `goal`: its start is lowered until it meets the goal, its tail is not lowered,
-- and all others were lowered by edges
pub record IsTraced (literals : List Diff) (values : List ℤ) (goal : Diff) (reached : List Reach) : Type 0 where
  pub as_long : length reached ≡ length values
  pub starts : lowered_value values reached goal.x ≡ value_of values goal.y +ℤ goal.c
  pub started : (v : ℕ) → v < length values → (reach_of reached v).rank ≢ UNSETTLED → (reach_of reached goal.x).rank ≢ UNSETTLED
  pub settled_lowered : (v : ℕ) → v < length values → (reach_of reached v).rank ≢ UNSETTLED → pos 0 <ℤ (reach_of reached v).lowered
  pub tail_stays : (reach_of reached goal.y).lowered ≡ pos 0
  pub tail_unsettled : (reach_of reached goal.y).rank ≡ UNSETTLED
  pub not_negative : (v : ℕ) → v < length values → pos 0 ≤ℤ (reach_of reached v).lowered
  pub bounded : (v : ℕ) → v < length values → (reach_of reached v).lowered ≤ℤ pos (2 ^ 67)
  pub ranked : (v : ℕ) → v < length values → (reach_of reached v).rank ≤ UNSETTLED
  pub lowered_by : (v : ℕ) → v < length values → pos 0 <ℤ (reach_of reached v).lowered → v ≢ goal.x → IsLoweredBy literals values reached v

-- s was settled last, in the order of how much the vertices are lowered
pub record IsFront (variables : ℕ) (reached : List Reach) (s : ℕ) : Type 0 where
  pub within : s < variables
  pub settled : (reach_of reached s).rank ≢ UNSETTLED
  pub above : (v : ℕ) → v < variables → (reach_of reached v).rank ≢ UNSETTLED → (reach_of reached s).lowered ≤ℤ (reach_of reached v).lowered
  pub below : (v : ℕ) → v < variables → (reach_of reached v).rank ≡ UNSETTLED → (reach_of reached v).lowered ≤ℤ (reach_of reached s).lowered

-- how many vertices are not settled
abbrev pub unsettled_count : List Reach → ℕ
unsettled_count reached = count_by (λ r. r.rank == UNSETTLED) reached

-- some vertices that are not settled are lowered further
pub record Lowers (old new : List Reach) : Type 0 where
  pub as_long : length new ≡ length old
  pub ranks_stay : (v : ℕ) → (reach_of new v).rank ≡ (reach_of old v).rank
  pub settled_stay : (v : ℕ) → (reach_of old v).rank ≢ UNSETTLED → reach_of new v ≡ reach_of old v
  pub lowers : (v : ℕ) → (reach_of old v).lowered ≤ℤ (reach_of new v).lowered
  pub count_stays : unsettled_count new ≡ unsettled_count old

-- an edge is met by the lowered values
abbrev pub MeetsEdge : List ℤ → List Reach → Edge → Type 0
MeetsEdge values reached e = lowered_value values reached e.to ≤ℤ (lowered_value values reached e.from +ℤ e.bound)

-- each edge from s is met by the lowered values: those of the literals from position p on, and those of the range
abbrev pub MeetsListedFrom : List Diff → List ℤ → List Reach → ℕ → ℕ → Type 0
MeetsListedFrom literals values reached p s =
    (k : ℕ) → p ≤ k → k < length literals → (literal_at literals k).y ≡ s → lowered_value values reached (literal_at literals k).x ≤ℤ (lowered_value values reached s +ℤ (literal_at literals k).c)

abbrev pub MeetsLow : List ℤ → List Reach → ℕ → Type 0
MeetsLow values reached s = lowered_value values reached 0 ≤ℤ (lowered_value values reached s +ℤ pos (2 ^ 63))

-- those to the first n vertices
abbrev pub MeetsHighBelow : ℕ → List ℤ → List Reach → Type 0
MeetsHighBelow n values reached = (v : ℕ) → v < n → lowered_value values reached v ≤ℤ (lowered_value values reached 0 +ℤ pos (2 ^ 63 - 1))

pub record MeetsRangeFrom (values : List ℤ) (reached : List Reach) (s : ℕ) : Type 0 where
  pub low : MeetsLow values reached s
  pub high : s ≡ 0 → MeetsHighBelow (length values) values reached

-- an edge from s would lower the tail of the goal
pub record Closes (literals : List Diff) (values : List ℤ) (goal : Diff) (reached : List Reach) (s via : ℕ) : Type 0 where
  pub implied : (m : List ℤ) → IsAssignment (length values) m → (0 < via → Meets m (literal_at literals (via - 1))) → (value_of m goal.y +ℤ lowered_value values reached s) <ℤ (value_of m s +ℤ value_of values goal.y)
  pub within : via ≤ length literals
  pub ends : 0 < via → (literal_at literals (via - 1)).x ≡ goal.y

-- a search under way, in which `from` was settled last
pub record IsRelaxing (literals : List Diff) (values : List ℤ) (goal : Diff) (reached : List Reach) (from : ℕ) : Type 0 where
  pub traced : IsTraced literals values goal reached
  pub front : IsFront (length values) reached from

-- between two vertices: the settled ones are lowered at least as much as the others, and the edges from them are met
pub record IsBetween (literals : List Diff) (values : List ℤ) (goal : Diff) (reached : List Reach) : Type 0 where
  pub traced : IsTraced literals values goal reached
  pub level : (u v : ℕ) → u < length values → v < length values → (reach_of reached u).rank ≢ UNSETTLED → (reach_of reached v).rank ≡ UNSETTLED → (reach_of reached v).lowered ≤ℤ (reach_of reached u).lowered
  pub listed_met : (v : ℕ) → v < length values → (reach_of reached v).rank ≢ UNSETTLED → MeetsListedFrom literals values reached 0 v
  pub range_met : (v : ℕ) → v < length values → (reach_of reached v).rank ≢ UNSETTLED → MeetsRangeFrom values reached v

-- the edges from each settled vertex are met, and no vertex waits to be settled
pub record IsRepaired (literals : List Diff) (values : List ℤ) (goal : Diff) (reached : List Reach) : Type 0 where
  pub traced : IsTraced literals values goal reached
  pub explored : IsExplored reached
  pub listed_met : (v : ℕ) → v < length values → (reach_of reached v).rank ≢ UNSETTLED → MeetsListedFrom literals values reached 0 v
  pub range_met : (v : ℕ) → v < length values → (reach_of reached v).rank ≢ UNSETTLED → MeetsRangeFrom values reached v

-- an edge from a settled vertex would lower the tail of the goal
pub record IsClosed (literals : List Diff) (values : List ℤ) (goal : Diff) (reached : List Reach) (c : Closing) : Type 0 where
  pub traced : IsTraced literals values goal reached
  pub within : c.from < length values
  pub settled : (reach_of reached c.from).rank ≢ UNSETTLED
  pub closes : Closes literals values goal reached c.from c.via

-- ---- these of the literals, the values and the goal of a search

abbrev pub HasPotential : Search → Type 0
HasPotential s = IsPotential s.edges.now s.values.now

abbrev pub IsEdgeIn : Search → Edge → Type 0
IsEdgeIn s e = IsMetEdge s.edges.now.literals s.values.now e

abbrev pub IsRelaxingIn : Search → List Reach → ℕ → Type 0
IsRelaxingIn s reached from = IsRelaxing s.edges.now.literals s.values.now s.goal reached from

abbrev pub MeetsListedIn : Search → List Reach → ℕ → Type 0
MeetsListedIn s reached from = MeetsListedFrom s.edges.now.literals s.values.now reached 0 from

abbrev pub MeetsRangeIn : Search → List Reach → ℕ → Type 0
MeetsRangeIn s reached from = MeetsRangeFrom s.values.now reached from

abbrev pub ClosesIn : Search → List Reach → ℕ → ℕ → Type 0
ClosesIn s reached from via = Closes s.edges.now.literals s.values.now s.goal reached from via

abbrev pub IsBetweenIn : Search → List Reach → Type 0
IsBetweenIn s reached = IsBetween s.edges.now.literals s.values.now s.goal reached

abbrev pub IsRepairedIn : Search → List Reach → Type 0
IsRepairedIn s reached = IsRepaired s.edges.now.literals s.values.now s.goal reached

abbrev pub IsClosedIn : Search → List Reach → Closing → Type 0
IsClosedIn s reached c = IsClosed s.edges.now.literals s.values.now s.goal reached c
