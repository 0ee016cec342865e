-- What the loop has passed is not marked, and no decision.
use Rattle.std.proofs.Common.{◌≤◌, ◌↔◌, length, reverse, take}
use Rattle.solve_solver.specs.Marks.{IsFreeLevel}
use Rattle.solve_solver.proofs.trail.Trail.is_free_level.Given as goal

abbrev pub invariant-loop-left : goal.invariant-loop-left
invariant-loop-left l = record {
  within : l.left ≤ length l.self-inside.entries.items;
  passed : IsFreeLevel l.marks (reverse (take l.left l.self-inside.entries.items)) ↔ IsFreeLevel l.marks (reverse l.self-inside.entries.items);
}

abbrev pub decreases-loop-left : goal.decreases-loop-left
decreases-loop-left l = l.left
