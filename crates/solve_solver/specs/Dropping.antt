-- What is left of a trail from which literals were taken back that were not marked.
use Rattle.std.specs.Prelude.{◌≡◌, ℕ, ◌≤◌, Bool, List, [], ◌∷◌, None, if◌then◌else◌}
use Rattle.solve_solver.specs.declared.trail.Entry.{Entry}
use Rattle.solve_solver.specs.Marks.{AgreesMarked}
use Rattle.solve_solver.specs.Trail.{value_in}
use Rattle.solve_solver.specs.Work.{pending, rest}

-- what was set before the latest decision
abbrev pub before_decision : List Entry → List Entry
before_decision [] = []
before_decision (e ∷ es) = if e.decided then es else before_decision es

-- the marked literals are still there, and there is no more work left
pub record IsDropped (marks : List Bool) (vars : ℕ) (old new : List Entry) : Type 0 where
  pub agrees : (assignment : List Bool) → AgreesMarked assignment marks new → AgreesMarked assignment marks old
  pub unset : (var : ℕ) → value_in old var ≡ None → value_in new var ≡ None
  pub no_more : pending vars new ≤ pending vars old

-- the latest decision is gone with all that was set since
pub record IsLevelDropped (marks : List Bool) (vars : ℕ) (old new : List Entry) : Type 0 where
  pub dropped : IsDropped marks vars old new
  pub less : rest vars new ≤ pending vars old
