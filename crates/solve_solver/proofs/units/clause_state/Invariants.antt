-- The literals that the loop has passed are false but for one that is not set, if any.
use Rattle.std.proofs.Common.{take, MatchOption}
use Rattle.std.specs.List.{All}
use Rattle.solve_solver.specs.Units.{IsFalseIn, IsUnit}
use Rattle.solve_solver.proofs.units.clause_state.Given as goal

abbrev pub invariant-loop-literal : goal.invariant-loop-literal
invariant-loop-literal l =
    let passed = take l.literal-index l.clause in
    MatchOption l.unset (All (IsFalseIn l.trail.entries) passed) (IsUnit l.trail.entries passed)
