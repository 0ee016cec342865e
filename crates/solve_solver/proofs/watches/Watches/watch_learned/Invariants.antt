use Rattle.std.proofs.Common.{◌≡◌}
use Rattle.solve_solver.proofs.watches.Watches.watch_learned.Given as goal

abbrev pub invariant-loop-slot : goal.invariant-loop-slot
invariant-loop-slot l = l.self ≡ l.initial.self
