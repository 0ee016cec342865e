use Rattle.std.proofs.Common.{◌≡◌}
use Rattle.solve_solver.proofs.watches.Watches.detach_learned.Given as goal

abbrev pub invariant-loop-node : goal.invariant-loop-node
invariant-loop-node l = l.self ≡ l.initial.self
