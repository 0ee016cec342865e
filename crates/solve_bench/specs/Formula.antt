-- Formulas that fit the solver.
use Rattle.std.specs.Prelude.{◌≤◌, All, vec_len}
use Rattle.solve_solver.specs.Clauses.{IsWithin}
use Rattle.solve_bench.specs.declared.formula.Formula.{Formula}
use Rattle.solve_bench.specs.declared.formula.TheConstants.{MOST_VARIABLES, MOST_NUMBERS}

-- each clause is over the variables, and neither are too many
pub record IsFormula (f : Formula) : Type 0 where
  pub within : All (λ clause. IsWithin f.vars clause.items) f.clauses.items
  pub few_vars : f.vars ≤ MOST_VARIABLES
  pub few_clauses : vec_len f.clauses ≤ MOST_NUMBERS
