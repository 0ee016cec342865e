use Rattle.std.proofs.Common.{◌<◌}
use Rattle.solve_solver.proofs.looking.latest_two.Given as goal

abbrev pub invariant-loop-literal : goal.invariant-loop-literal
invariant-loop-literal l = (l.best.var < l.trail.vars) × (l.second.var < l.trail.vars)
