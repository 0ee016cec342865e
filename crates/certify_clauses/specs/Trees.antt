-- Trees of splits, and when one is lawful.
use Rattle.std.specs.Prelude.{◌≡◌, ℕ, ◌<◌, Bool, List, [], ◌∷◌, ◌++◌, None, All, IsSomeAnd}
use Rattle.solve_theory.specs.Models.{HasModel}
use Rattle.certify_clauses.specs.declared.literal.Literal.{Literal}
use Rattle.certify_clauses.specs.Paths.{positive, negative, value_on, IsFalseOn}
use Rattle.certify_clauses.specs.Problem.{Problem, are_columns, meets_said, all_said, IsLawfulAssignment}

-- a split on a variable, with a tree where it is true and one where it is false; a clause, by its number; or the theories
pub data Tree : Type 0 where
  split : (var : ℕ) → Tree → Tree → Tree
  clause : (number : ℕ) → Tree
  theory : Tree

module _ (c : Problem) where
  -- a variable that is there and not on the path yet
  pub record IsLawfulSplit (path : List Literal) (v : ℕ) : Type 0 where
    pub there : v < c.vars
    pub fresh : value_on path v ≡ None

  -- a clause that is there, each of whose literals is false on the path
  abbrev pub IsFalseClause : List Literal → ℕ → Type 0
  IsFalseClause path n = IsSomeAnd (c.clause n) (All (IsFalseOn path))

  -- what the path says has no model
  abbrev pub IsWithoutModel : List Literal → Type 0
  IsWithoutModel path = ¬ HasModel (are_columns c) meets_said (all_said c path)

  -- a tree is lawful behind a path of literals where each of its lines is
  abbrev pub IsLawful : List Literal → Tree → Type 0
  IsLawful path (split v t u) = IsLawfulSplit path v × IsLawful (path ++ positive v ∷ []) t × IsLawful (path ++ negative v ∷ []) u
  IsLawful path (clause n) = IsFalseClause path n
  IsLawful path theory = IsWithoutModel path

-- where there is a lawful tree, there is no lawful assignment
abbrev pub TreesRefute : Type 0
TreesRefute = (c : Problem) (t : Tree) → IsLawful c [] t → (a : ℕ → Bool) → IsLawfulAssignment c a → ⊥
