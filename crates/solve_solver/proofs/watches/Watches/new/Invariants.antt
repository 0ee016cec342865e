use Rattle.std.proofs.Common.{◌≡◌}
use Rattle.solve_solver.proofs.watches.Watches.new.Given as goal

abbrev pub invariant-loop-place : goal.invariant-loop-place
invariant-loop-place l = l.watches ≡ l.initial.watches
