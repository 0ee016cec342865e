use Rattle.std.proofs.Common.{◌≡◌, ◌<◌}
use Rattle.solve_solver.proofs.heap.Heap.lift.Given as goal

abbrev pub invariant-loop-place : goal.invariant-loop-place
invariant-loop-place l = (l.self ≡ l.initial.self) × (l.place < l.initial.self)

abbrev pub decreases-loop-place : goal.decreases-loop-place
decreases-loop-place l = l.place
