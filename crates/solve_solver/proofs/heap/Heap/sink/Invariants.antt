use Rattle.std.proofs.Common.{◌≡◌, ◌<◌, ◌-◌}
use Rattle.solve_solver.proofs.heap.Heap.sink.Given as goal

abbrev pub invariant-loop-below : goal.invariant-loop-below
invariant-loop-below l = (l.self ≡ l.initial.self) × (l.place < l.initial.self)

abbrev pub decreases-loop-below : goal.decreases-loop-below
decreases-loop-below l = l.initial.self - l.place
