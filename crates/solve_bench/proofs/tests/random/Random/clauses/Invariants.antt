use Rattle.std.specs.List.{All}
use Rattle.solve_solver.specs.Clauses.{IsWithin}
use Rattle.solve_bench.proofs.tests.random.Random.clauses.Given as goal

abbrev pub invariant-loop : goal.invariant-loop
invariant-loop l = All (λ c. IsWithin l.vars c.items) l.clauses.items
