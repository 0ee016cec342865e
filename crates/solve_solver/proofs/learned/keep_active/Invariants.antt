use Rattle.std.proofs.Common.{◌≤◌}
use Rattle.std.specs.List.{All, Contains}
use Rattle.solve_solver.proofs.learned.keep_active.Given as goal

abbrev pub invariant-loop-slot : goal.invariant-loop-slot
invariant-loop-slot l = record {
  contained : All (Contains l.from.list) l.to.list;
  literal_room : l.fn.to.literal_room ≤ l.to.literal_room;
  clause_room : l.fn.to.clause_room ≤ l.to.clause_room;
}
