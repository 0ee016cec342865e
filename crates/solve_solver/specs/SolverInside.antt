-- What holds of a `Solver` between its calls.
use Rattle.std.specs.Prelude.{◌≡◌, ℕ, ◌<◌, Bool, List, length, Option, All, if◌then◌else◌}
use Rattle.std.specs.Bool.{OnTrue}
use Rattle.solve_solver.specs.declared.literal.PLit.{PLit}
use Rattle.solve_solver.specs.declared.trail.Entry.{Entry}
use Rattle.solve_solver.specs.declared.limits.TheConstants.{TOO_MANY}
use Rattle.solve_solver.specs.Assumed.{values_of}
use Rattle.solve_solver.specs.Clauses.{IsWithin}
use Rattle.solve_solver.specs.Steps.{IsHeld}

-- the trail of the search holds an assignment where there is one
pub record IsSolver (solved : Bool) (vars : ℕ) (clauses : List (List PLit)) (es : List Entry) (assumed_vars : ℕ) : Type 0 where
  pub held : OnTrue solved (IsHeld vars clauses es)
  pub few : length clauses < TOO_MANY
  pub within : All (IsWithin vars) clauses
  pub assumed_each : assumed_vars ≡ vars

-- the values of the search, where it found an assignment, or those that were assumed
abbrev pub values_by : Bool → ℕ → List Entry → List Entry → List (Option Bool)
values_by solved vars es assumed = values_of vars (if solved then es else assumed)
