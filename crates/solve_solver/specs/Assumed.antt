-- How a trail stands for values of variables, and what propagation makes of it.
use Rattle.std.specs.Prelude.{◌≡◌, ℕ, ◌<◌, Bool, List, Option, Some, All, IsTrue, map, MatchOption}
use Rattle.std.specs.List.{range_with_len}
use Rattle.solve_solver.specs.declared.literal.PLit.{PLit}
use Rattle.solve_solver.specs.declared.trail.Entry.{Entry}
use Rattle.solve_solver.specs.declared.units.ClauseState.TheVariants.{Conflict}
use Rattle.solve_solver.specs.Assignment.{meets_clause, value_at}
use Rattle.solve_solver.specs.Trail.{value_in}
use Rattle.solve_solver.specs.Units.{IsAt, IsOpen}

-- the values of the first variables
abbrev pub values_of : ℕ → List Entry → List (Option Bool)
values_of vars es = map (λ var. value_in es var) (range_with_len 0 vars)

-- the assignment meets each clause
abbrev pub MeetsEach : List (List PLit) → List Bool → Type 0
MeetsEach clauses assignment = All (λ clause. IsTrue (meets_clause assignment clause)) clauses

-- an assignment has each literal that is set
abbrev pub AgreesBelow : ℕ → List Bool → List Entry → Type 0
AgreesBelow vars assignment es = (var : ℕ) (value : Bool) → var < vars → value_in es var ≡ Some value → value_at assignment var ≡ value

-- literals were set that follow from the clauses
pub record IsExtended (vars : ℕ) (clauses : List (List PLit)) (old new : List Entry) : Type 0 where
  pub follow : (assignment : List Bool) → MeetsEach clauses assignment → AgreesBelow vars assignment old → AgreesBelow vars assignment new
  pub stay : (var : ℕ) (value : Bool) → value_in old var ≡ Some value → value_in new var ≡ Some value

-- no clause is in conflict or a unit, or that of this place is in conflict
abbrev pub IsEnd : List (List PLit) → List Entry → Option ℕ → Type 0
IsEnd clauses es end = MatchOption end (All (IsOpen es) clauses) (λ place. IsAt es clauses place Conflict)
