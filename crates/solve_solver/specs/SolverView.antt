-- What a contract sees of a `Solver`.
use Rattle.std.specs.Prelude.{◌≡◌, ℕ, Bool, List, Option}
use Rattle.solve_solver.specs.declared.literal.PLit.{PLit}
use Rattle.solve_solver.specs.Assignment.{IsLawful}

-- The assignment is there where the last call that changed the solver was a search that found one. Then
-- the values are those of the assignment; else they are of the variables that were assumed, or set by clauses.
pub record SolverView (T L : Type 0) : Type 0 where
  pub vars : ℕ
  pub clauses : List (List PLit)
  pub atoms : List (Option (L × L))
  pub theory : T
  pub assignment : Option (List Bool)
  pub values : List (Option Bool)

-- an assignment that meets the clauses and the theory
abbrev pub IsLawfulFor : {T M L : Type 0} → (T → M → Bool) → (M → L → Bool) → SolverView T L → List Bool → Type 0
IsLawfulFor models meets s = IsLawful (models s.theory) meets s.vars s.clauses s.atoms

-- all but clauses and assignment stays as it is, but for the theory's list
pub record SameTerms {T M L : Type 0} (capacity : T → ℕ) (takes : T → L → Bool) (models : T → M → Bool) (old new : SolverView T L) : Type 0 where
  pub vars : new.vars ≡ old.vars
  pub atoms : new.atoms ≡ old.atoms
  pub capacity_is : capacity new.theory ≡ capacity old.theory
  pub takes_is : takes new.theory ≡ takes old.theory
  pub models_is : models new.theory ≡ models old.theory
