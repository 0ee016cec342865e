use Rattle.std.proofs.Common.{length}
use Rattle.solve_solver.specs.Clauses.{IsWithin}
use Rattle.decide_search.proofs.solving.values_first.Given as goal

abbrev pub invariant-loop-place : goal.invariant-loop-place
invariant-loop-place l = IsWithin (length l.facts) l.values.items
