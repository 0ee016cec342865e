use Rattle.std.specs.List.{All}
use Rattle.solve_solver.specs.Clauses.{IsWithin}
use Rattle.solve_bench.proofs.tests.mixed.clauses_of.Given as goal

abbrev pub invariant-loop-numbers : goal.invariant-loop-numbers
invariant-loop-numbers g l = All (λ c. IsWithin l.vars c.items) l.clauses.items
