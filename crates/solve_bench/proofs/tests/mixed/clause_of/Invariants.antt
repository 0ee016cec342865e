use Rattle.solve_solver.specs.Clauses.{IsWithin}
use Rattle.solve_bench.proofs.tests.mixed.clause_of.Given as goal

abbrev pub invariant-loop-number : goal.invariant-loop-number
invariant-loop-number g l = IsWithin l.vars l.clause.items
