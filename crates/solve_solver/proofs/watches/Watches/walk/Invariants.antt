use Rattle.std.proofs.Common.{◌≡◌}
use Rattle.solve_solver.proofs.watches.Watches.walk.Given as goal

abbrev pub invariant-loop : goal.invariant-loop
invariant-loop l = l.self ≡ l.initial.self
