-- The variables that the loop has passed are set.
use Rattle.std.proofs.Common.{◌≢◌, ℕ, ◌<◌, None}
use Rattle.solve_solver.specs.Trail.{value_in}
use Rattle.solve_solver.proofs.preferences.Preferences.first_unset.Given as goal

abbrev pub invariant-loop-index : goal.invariant-loop-index
invariant-loop-index l = (var : ℕ) → var < l.index → value_in l.trail.entries var ≢ None
