use Rattle.solve_solver.specs.Clauses.{IsWithin}
use Rattle.solve_bench.proofs.tests.random.Random.clause.Given as goal

abbrev pub invariant-loop : goal.invariant-loop
invariant-loop l = IsWithin l.vars l.clause.items
