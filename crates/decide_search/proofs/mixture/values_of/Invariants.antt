use Rattle.std.proofs.Common.{◌≡◌, map}
use Rattle.std.specs.Prelude.{IfSome}
use Rattle.std.specs.List.{range_with_len}
use Rattle.solve_solver.specs.Assignment.{value_at}
use Rattle.decide_search.proofs.mixture.values_of.Given as goal

abbrev pub invariant-loop-var : goal.invariant-loop-var
invariant-loop-var g l = IfSome l.solver.assignment (λ assignment. l.values.items ≡ map (value_at assignment) (range_with_len 0 l.var))
