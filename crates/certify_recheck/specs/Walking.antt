-- One line of a tree after another.
use Rattle.std.specs.Prelude.{◌≡◌, ℕ, ◌≤◌, Bool, IsTrue, List, [], ◌∷◌, ◌++◌, length, take}
use Rattle.solve_equality.specs.Equality.{takes_literal}
use Rattle.solve_order.specs.Difference.{is_literal}
use Rattle.solve_theory.specs.Models.{HasModel}
use Rattle.solve_theory.specs.Pair.{takes_own}
use Rattle.certify_clauses.specs.declared.literal.Literal.{Literal}
use Rattle.certify_clauses.specs.Paths.{pending}
use Rattle.certify_clauses.specs.Problem.{Columns, Problem, Said, all_said, are_columns, meets_said}
use Rattle.certify_recheck.specs.Due.{IsNext, branches, due_at, later, tree}
use Rattle.certify_recheck.specs.declared.line.Line.{Line}
use Rattle.certify_recheck.specs.declared.walk.Step.{Step}
use Rattle.certify_recheck.specs.declared.walk.Step.TheVariants.{Bad, More, Done}

-- each literal is taken that is of terms and numbers that there are
abbrev pub TakesAll : Problem → (Said → Bool) → Type 0
TakesAll c takes = (said : Said) → IsTrue (takes_own (takes_literal c.terms) (is_literal c.numbers) said) → IsTrue (takes said)

-- so many literals of the path were told, from the outermost on: what they say is asserted and has a model; there is room for what
-- all variables say, and the models are the columns
pub record IsReady (c : Problem) (path : List Literal) (told : ℕ) (literals : List Said) (capacity : ℕ) (takes : Said → Bool) (models : Columns → Bool) (meets : Columns → Said → Bool) : Type 0 where
  pub within : told ≤ length path
  pub asserted : literals ≡ all_said c (take told path)
  pub has_model : HasModel models meets literals
  pub room : c.vars ≤ capacity
  pub takes_are : takes ≡ takes_own (takes_literal c.terms) (is_literal c.numbers)
  pub models_are : models ≡ are_columns c
  pub meets_are : meets ≡ meets_said

-- what a line did to a path: it was not the next one; or it was, and the new path and what that leaves are all that is due; or it
-- was, and nothing is left
abbrev pub IsStep : Problem → List Literal → Line → List Literal → Step → Type 0
IsStep c path l new Bad = ¬ IsNext (tree c path) l
IsStep c path l new More = IsNext (tree c path) l × (due_at c new ≡ branches c path l ++ later c path)
IsStep c path l new Done = IsNext (tree c path) l × (branches c path l ++ later c path ≡ [])

-- the same behind a leaf, whose line leaves nothing of its own
abbrev pub IsClosed : List Literal → List Literal → Step → Type 0
IsClosed path new Bad = ⊥
IsClosed path new More = pending path ≡ new ∷ pending new
IsClosed path new Done = pending path ≡ []

-- the new path begins with the old one
pub record IsFront (path new : List Literal) : Type 0 where
  pub longer : length path ≤ length new
  pub front : (k : ℕ) → k ≤ length path → take k new ≡ take k path
