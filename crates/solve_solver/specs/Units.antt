-- What a clause says under a trail.
use Rattle.std.specs.Prelude.{◌≡◌, ◌⊎◌, ℕ, false, List, Some, None, All}
use Rattle.std.specs.List.{Any, AllWithin, Contains, slice_get}
use Rattle.solve_solver.specs.declared.literal.PLit.{PLit}
use Rattle.solve_solver.specs.declared.trail.Entry.{Entry}
use Rattle.solve_solver.specs.declared.units.ClauseState.{ClauseState}
use Rattle.solve_solver.specs.declared.units.ClauseState.TheVariants.{Conflict, UnitLiteral, Open}
use Rattle.solve_solver.specs.Trail.{value_in, literal_in}

abbrev pub IsFalseIn : List Entry → PLit → Type 0
IsFalseIn es l = literal_in es l ≡ Some false

-- each literal of the clause is false but one, which is not set
pub record IsUnit (es : List Entry) (clause : List PLit) (l : PLit) : Type 0 where
  pub unset : value_in es l.var ≡ None
  pub there : Contains clause l
  pub others : All (λ x. IsFalseIn es x ⊎ (x ≡ l)) clause

-- the clause is in no conflict and no unit
pub record IsOpen (es : List Entry) (clause : List PLit) : Type 0 where
  pub not_false : Any (λ l. ¬ IsFalseIn es l) clause
  pub no_unit : (l : PLit) → ¬ IsUnit es clause l

-- each literal is false; each but one; or neither
abbrev pub IsStateOf : List Entry → List PLit → ClauseState → Type 0
IsStateOf es clause Conflict = All (IsFalseIn es) clause
IsStateOf es clause (UnitLiteral l) = IsUnit es clause l
IsStateOf es clause Open = IsOpen es clause

-- the clause at a place is in a state
pub record IsAt (es : List Entry) (clauses : List (List PLit)) (place : ℕ) (state : ClauseState) : Type 0 where
  pub clause : List PLit
  pub here : slice_get clauses place ≡ Some clause
  pub is : IsStateOf es clause state

-- the clause at this place is in conflict or a unit, or none is
abbrev pub IsFoundIn : List Entry → List (List PLit) → ClauseState → ℕ → Type 0
IsFoundIn es clauses Conflict place = IsAt es clauses place Conflict
IsFoundIn es clauses (UnitLiteral l) place = IsAt es clauses place (UnitLiteral l)
IsFoundIn es clauses Open place = All (IsOpen es) clauses

-- the same, or none of the clauses from one place up to another is
abbrev pub IsFoundWithin : List Entry → List (List PLit) → ℕ → ℕ → ClauseState → ℕ → Type 0
IsFoundWithin es clauses start end Conflict place = IsAt es clauses place Conflict
IsFoundWithin es clauses start end (UnitLiteral l) place = IsAt es clauses place (UnitLiteral l)
IsFoundWithin es clauses start end Open place = AllWithin (IsOpen es) clauses start end
