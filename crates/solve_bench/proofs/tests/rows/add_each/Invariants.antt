use Rattle.std.proofs.Common.{◌≡◌, ◌+◌, length}
use Rattle.solve_bench.proofs.tests.rows.add_each.Given as goal

abbrev pub invariant-loop-clause : goal.invariant-loop-clause
invariant-loop-clause g l = record {
  vars : l.solver.vars ≡ l.initial.solver.vars;
  count : length l.solver.clauses ≡ length l.initial.solver.clauses + l.clause-index;
}
