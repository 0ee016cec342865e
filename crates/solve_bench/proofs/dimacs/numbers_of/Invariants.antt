-- Neither the variables nor the numbers are too many.
use Rattle.std.proofs.Common.{◌≤◌, vec_len}
use Rattle.std.specs.Option.{IfSome}
use Rattle.solve_bench.proofs.dimacs.numbers_of.Given as goal

abbrev pub invariant-loop-line : goal.invariant-loop-line
invariant-loop-line l = record {
  few_vars : IfSome l.header (λ h. h.vars ≤ 1000000);
  few_numbers : vec_len l.numbers ≤ 10000000;
}
