use Rattle.std.proofs.Common.{◌≡◌}
use Rattle.solve_solver.proofs.watches.Watches.grow.Given as goal

abbrev pub invariant-loop-node : goal.invariant-loop-node
invariant-loop-node l = l.larger ≡ l.initial.larger
