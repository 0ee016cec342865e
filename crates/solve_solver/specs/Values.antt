-- Values of variables, where they are set: a list with a truth value or none for each variable.
use Rattle.std.specs.Prelude.{◌≡◌, ◌⊎◌, ℕ, Bool, false, List, Option, Some, None, All, IsTrue, slice_index_or}
use Rattle.std.specs.List.{Contains, slice_get}
use Rattle.std.specs.Option.{option_map, IsSomeAnd}
use Rattle.solve_solver.specs.declared.literal.PLit.{PLit}
use Rattle.solve_solver.specs.declared.solver.Prop.{Prop}
use Rattle.solve_solver.specs.declared.solver.Prop.TheVariants.{Quiet, Clash}
use Rattle.solve_solver.specs.Assignment.{value_at, signed, meets_clause}

-- the value of a variable, where it is set
abbrev pub set_value : List (Option Bool) → ℕ → Option Bool
set_value values var = slice_index_or values var None

-- the variable of the literal is set, and the literal is false
abbrev pub IsFalseBy : List (Option Bool) → PLit → Type 0
IsFalseBy values l = option_map (signed l) (set_value values l.var) ≡ Some false

-- all literals of the clause are false
abbrev pub IsClash : List (Option Bool) → List PLit → Type 0
IsClash values clause = All (IsFalseBy values) clause

-- all literals of the clause are false but this one, which is not set
pub record IsUnitBy (values : List (Option Bool)) (clause : List PLit) (l : PLit) : Type 0 where
  pub unset : set_value values l.var ≡ None
  pub there : Contains clause l
  pub others : All (λ x. IsFalseBy values x ⊎ (x ≡ l)) clause

-- a scan of all clauses finds none whose literals are all false, and none with all false but one that is not set
abbrev pub IsQuiet : List (Option Bool) → List (List PLit) → Type 0
IsQuiet values clauses = All (λ clause. (¬ IsClash values clause) × ((l : PLit) → ¬ IsUnitBy values clause l)) clauses

-- a scan finds nothing; or all literals of the clause of this number are false
abbrev pub IsPropagated : List (Option Bool) → List (List PLit) → Prop → Type 0
IsPropagated values clauses Quiet = IsQuiet values clauses
IsPropagated values clauses (Clash number) = IsSomeAnd (slice_get clauses number) (IsClash values)

-- each variable that is set has its value in the assignment
abbrev pub AgreesWith : List Bool → List (Option Bool) → Type 0
AgreesWith assignment values = (var : ℕ) (value : Bool) → set_value values var ≡ Some value → value_at assignment var ≡ value

-- each assignment that meets the clauses and agrees with the one agrees with the other
abbrev pub Follow : List (List PLit) → List (Option Bool) → List (Option Bool) → Type 0
Follow clauses old new = (assignment : List Bool) → All (λ clause. IsTrue (meets_clause assignment clause)) clauses → AgreesWith assignment old → AgreesWith assignment new

-- no variable that was set has another value, or none
abbrev pub Stay : List (Option Bool) → List (Option Bool) → Type 0
Stay old new = (var : ℕ) (value : Bool) → set_value old var ≡ Some value → set_value new var ≡ Some value
