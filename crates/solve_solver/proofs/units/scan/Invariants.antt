-- The clauses that the loop has passed are no conflicts and no units.
use Rattle.std.specs.List.{AllWithin}
use Rattle.solve_solver.specs.Units.{IsOpen}
use Rattle.solve_solver.proofs.units.scan.Given as goal

abbrev pub invariant-loop-clause : goal.invariant-loop-clause
invariant-loop-clause l = AllWithin (IsOpen l.trail.entries) l.clauses.list l.start l.clause
