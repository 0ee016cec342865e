-- The literals of a negative cycle.
use Rattle.std.specs.Prelude.{◌≢◌, ℕ, zero, suc, ◌<◌, List, ◌∷◌, [], ◌++◌, length, ℤ, ◌+ℤ◌, ◌<ℤ◌, All, AllPairs}
use Rattle.solve_order.specs.declared.diff.Diff.{Diff}
use Rattle.solve_order.specs.declared.frontier.TheConstants.{UNSETTLED}
use Rattle.solve_order.specs.declared.frontier.Reach.{Reach}
use Rattle.solve_order.specs.Difference.{value_of}
use Rattle.solve_order.specs.Edges.{literal_at}
use Rattle.solve_order.specs.Reach.{reach_of}
use Rattle.solve_order.specs.Potential.{IsAssignment, Meets}
use Rattle.solve_order.specs.Search.{lowered_value}

-- positions of literals, each once, that no assignment meets together
pub record IsConflict (literals : List Diff) (variables : ℕ) (positions : List ℕ) : Type 0 where
  pub within : All (λ p. p < length literals) positions
  pub once : AllPairs (λ p q. p ≢ q) positions
  pub refutes : (m : List ℤ) → IsAssignment variables m → All (λ p. Meets m (literal_at literals p)) positions → ⊥

-- the positions with that of an edge, if the edge is a literal
abbrev pub with_edge : List ℕ → ℕ → List ℕ
with_edge positions zero = positions
with_edge positions (suc p) = positions ++ p ∷ []

-- the positions on a path from v, which is settled, to the tail of the goal: an assignment that meets their literals
-- has the tail less far above v than the values have it above the lowered value of v
pub record IsPath (literals : List Diff) (values : List ℤ) (goal : Diff) (reached : List Reach) (v : ℕ) (positions : List ℕ) : Type 0 where
  pub v_within : v < length values
  pub settled : (reach_of reached v).rank ≢ UNSETTLED
  pub within : All (λ p. p < length literals) positions
  pub once : AllPairs (λ p q. p ≢ q) positions
  pub behind : All (λ p. (reach_of reached v).rank < (reach_of reached (literal_at literals p).x).rank) positions
  pub shorter : (m : List ℤ) → IsAssignment (length values) m → All (λ p. Meets m (literal_at literals p)) positions → (value_of m goal.y +ℤ lowered_value values reached v) <ℤ (value_of m v +ℤ value_of values goal.y)
