-- The clause is made of the literal and of the opposites of those marked ones that the loop has passed.
use Rattle.std.proofs.Common.{◌≡◌, ◌≤◌, ◌+◌, length, reverse, take}
use Rattle.solve_solver.specs.Marks.{collected}
use Rattle.solve_solver.proofs.marking.collect.Given as goal

abbrev pub invariant-loop-passed : goal.invariant-loop-passed
invariant-loop-passed l = record {
  capacity : l.clause.capacity ≡ l.fn.clause.capacity;
  few : length l.clause.items ≤ l.passed + 1;
  items : l.clause.items ≡ collected l.fn.literal l.marks (take l.passed (reverse l.entries));
}
