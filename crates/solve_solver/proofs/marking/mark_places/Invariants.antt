-- The variables at the positions that the loop has passed are marked, no mark was taken away, and none
-- came from elsewhere.
use Rattle.std.proofs.Common.{◌≡◌, ◌⊎◌, ℕ, ◌<◌, length, take, IsTrue}
use Rattle.std.specs.List.{All, Any, slice_index}
use Rattle.solve_solver.specs.Assignment.{value_at}
use Rattle.solve_solver.specs.Marks.{HasMarks}
use Rattle.solve_solver.proofs.marking.mark_places.Given as goal

abbrev pub invariant-loop-position : goal.invariant-loop-position
invariant-loop-position l = record {
  more : HasMarks l.marks l.initial.marks;
  only : (v : ℕ) → IsTrue (value_at l.marks v) → IsTrue (value_at l.initial.marks v) ⊎ Any (λ p. (p < length l.places) × (slice_index l.places p ≡ v)) l.positions;
  marked : All (λ p. p < length l.places → IsTrue (value_at l.marks (slice_index l.places p))) (take l.position-index l.positions);
}
