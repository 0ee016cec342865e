-- Assignments whose equalities and differences have a model.
use Rattle.std.specs.Prelude.{◌≡◌, ℕ, Bool, List, Option, IsTrue, All, length}
use Rattle.solve_equality.specs.Equality.{is_classes, meets_literal, takes_literal}
use Rattle.solve_equality.specs.declared.literal.EqualityLit.{EqualityLit}
use Rattle.solve_order.specs.Difference.{is_assignment, is_literal, meets}
use Rattle.solve_order.specs.declared.diff.Diff.{Diff}
use Rattle.solve_theory.specs.Pair.{are_models, meets_own, takes_own}
use Rattle.solve_theory.specs.declared.pair.PairLit.{PairLit}
use Rattle.solve_theory.specs.Models.{IsModelOf}
use Rattle.solve_solver.specs.Assignment.{IsLawful, meets_clause, theory_literals}
use Rattle.solve_solver.specs.ContextView.{IsTaken}
use Rattle.solve_solver.specs.declared.literal.PLit.{PLit}
use Rattle.decide_search.specs.declared.mixture.Mixture.{Mixture}

-- the literals of a variable that is an atom, where it is true and where it is false
abbrev pub Atom : Type 0
Atom = Option (PairLit EqualityLit Diff × PairLit EqualityLit Diff)

-- each speaks of terms and variables that there are
abbrev pub AreTaken : ℕ → ℕ → List Atom → Type 0
AreTaken terms variables atoms = All (IsTaken (takes_own (takes_literal terms) (is_literal variables))) atoms

-- an assignment of the variables meets the clauses, and its equalities and differences have a model, where some terms are fixed to be
-- pairwise different
abbrev pub IsMixed : ℕ → List ℕ → ℕ → ℕ → List (List PLit) → List Atom → List Bool → Type 0
IsMixed terms fixed variables vars clauses atoms assignment =
    IsLawful (are_models (is_classes terms fixed) (is_assignment variables)) (meets_own meets_literal meets) vars clauses atoms assignment

-- there is a value for each variable, and they meet the clauses
pub record AreValues (vars : ℕ) (clauses : List (List PLit)) (values : List Bool) : Type 0 where
  pub one_each : length values ≡ vars
  pub meets_each : All (λ clause. IsTrue (meets_clause values clause)) clauses

abbrev pub IsMixture : ℕ → List (List PLit) → Mixture → Type 0
IsMixture vars clauses m = AreValues vars clauses m.values.items

-- the classes and the numbers are a model of the literals for the values
abbrev pub IsModelled : ℕ → List ℕ → ℕ → List Atom → Mixture → Type 0
IsModelled terms fixed variables atoms m =
    IsModelOf (are_models (is_classes terms fixed) (is_assignment variables)) (meets_own meets_literal meets) (theory_literals m.values.items atoms) (m.classes, m.numbers)
