use Rattle.std.proofs.Common.{◌≡◌, ◌+◌, length, All}
use Rattle.solve_equality.specs.Equality.{takes_literal}
use Rattle.solve_theory.specs.Pair.{takes_own}
use Rattle.solve_order.specs.Difference.{is_literal}
use Rattle.solve_solver.specs.ContextView.{IsTaken}
use Rattle.solve_bench.proofs.tests.mixed.atoms.Given as goal

abbrev pub invariant-loop-difference : goal.invariant-loop-difference
invariant-loop-difference l = record {
  one_each : length l.atoms.items ≡ l.plain + 3 + l.difference-index;
  taken : All (IsTaken (takes_own (takes_literal 3) (is_literal 3))) l.atoms.items;
}
