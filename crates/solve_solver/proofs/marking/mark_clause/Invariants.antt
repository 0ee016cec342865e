-- The literals that the loop has passed are marked, no mark was taken away, and none came from elsewhere.
use Rattle.std.proofs.Common.{◌≡◌, ◌≢◌, ◌⊎◌, ℕ, take, Some, IsTrue}
use Rattle.std.specs.List.{Any}
use Rattle.solve_solver.specs.Assignment.{value_at}
use Rattle.solve_solver.specs.Marks.{HasMarks, IsMarkedBut}
use Rattle.solve_solver.proofs.marking.mark_clause.Given as goal

abbrev pub invariant-loop-literal : goal.invariant-loop-literal
invariant-loop-literal l = record {
  more : HasMarks l.marks l.initial.marks;
  only : (v : ℕ) → IsTrue (value_at l.marks v) → IsTrue (value_at l.initial.marks v) ⊎ Any (λ x. (l.but ≢ Some x) × (x.var ≡ v)) l.clause;
  marked : IsMarkedBut l.marks l.trail.entries l.but (take l.literal-index l.clause);
}
