-- Sides and literals of terms and numbers that there are.
use Rattle.std.specs.Prelude.{ℕ, ◌+◌, ◌<◌, ◌≤◌, All, List, length}
use Rattle.solve_equality.specs.Equality.{takes_literal}
use Rattle.solve_order.specs.Difference.{is_literal}
use Rattle.solve_theory.specs.Pair.{takes_own}
use Rattle.solve_solver.specs.ContextView.{IsTaken}
use Rattle.ground_problem.specs.declared.ground.GroundClauses.{GroundClauses}
use Rattle.decide_search.specs.Mixed.{Atom, AreTaken}
use Rattle.decide_search.specs.Problem.{AreBelow}
use Rattle.decide_search.specs.declared.sides.Side.{Side}
use Rattle.decide_search.specs.declared.sides.Side.TheVariants as side

-- a term of equality is one of so many, and a number is zero or that of a term
abbrev pub IsSideWithin : ℕ → ℕ → Side → Type 0
IsSideWithin terms texts (side.Element sort c) = c < terms + texts
IsSideWithin terms texts (side.Text c) = c < terms + texts
IsSideWithin terms texts (side.Number x o) = x < terms + 1

-- the literals of a variable speak of terms and numbers that there are, where texts come behind the terms
abbrev pub IsTakenBy : ℕ → ℕ → Atom → Type 0
IsTakenBy terms texts atom = IsTaken (takes_own (takes_literal (terms + texts)) (is_literal (terms + 1))) atom

abbrev pub AreTakenBy : ℕ → ℕ → List Atom → Type 0
AreTakenBy terms texts atoms = AreTaken (terms + texts) (terms + 1) atoms

-- the facts are the first of the variables, and the clauses speak of no others
pub record AreBelowEnd (ground : GroundClauses) : Type 0 where
  pub facts : length ground.facts.items ≤ ground.end
  pub clauses : All (λ c. AreBelow ground.end c.items) ground.clauses.items
  pub gates : All (λ c. AreBelow ground.end c.items) ground.gates.items
