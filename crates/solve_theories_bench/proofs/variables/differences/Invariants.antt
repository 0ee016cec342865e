-- There is a literal for each place that the loop has passed.
use Rattle.std.proofs.Common.{◌≡◌, length, IsTrue, All}
use Rattle.solve_order.specs.Difference.{is_literal}
use Rattle.solve_theories_bench.proofs.variables.differences.Given as goal

abbrev pub invariant-loop-place : goal.invariant-loop-place
invariant-loop-place l = record {
  count : length l.literals.items ≡ l._place;
  taken : All (λ literal. IsTrue (is_literal 400 literal)) l.literals.items;
}
