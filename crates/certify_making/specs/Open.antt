-- Paths that no line can close.
use Rattle.std.specs.Prelude.{◌≡◌, ℕ, ◌<◌, Bool, List, None, All, IfSome}
use Rattle.solve_theory.specs.Models.{HasModel}
use Rattle.certify_clauses.specs.Paths.{value_on}
use Rattle.certify_clauses.specs.Problem.{IsLawfulAssignment, Problem, all_said, are_columns, meets_said}
use Rattle.certify_clauses.specs.Trees.{IsFalseClause}
use Rattle.certify_clauses.specs.declared.literal.Literal.{Literal}

-- each variable of a clause is there
abbrev pub HasVarsBelow : Problem → Type 0
HasVarsBelow c = (n : ℕ) → IfSome (c.clause n) (All (λ l. l.var < c.vars))

-- some assignment is lawful
abbrev pub HasAssignment : Problem → Type 0
HasAssignment c = (a : ℕ → Bool) × IsLawfulAssignment c a

-- each variable is on the path, no clause is false on it, and what it says has a model
pub record IsOpen (c : Problem) (path : List Literal) : Type 0 where
  pub full : (v : ℕ) → v < c.vars → value_on path v ≡ None → ⊥
  pub no_clause : (n : ℕ) → IsFalseClause c path n → ⊥
  pub has_model : HasModel (are_columns c) meets_said (all_said c path)
