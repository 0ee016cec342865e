-- The numbers are not too many.
use Rattle.std.proofs.Common.{◌≤◌, vec_len}
use Rattle.solve_bench.proofs.dimacs.push_numbers.Given as goal

abbrev pub invariant-loop-word : goal.invariant-loop-word
invariant-loop-word l = vec_len l.numbers ≤ 10000000
