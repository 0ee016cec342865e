-- The literals that the loop has passed are false and marked.
use Rattle.std.proofs.Common.{false, set, take, Some}
use Rattle.solve_solver.specs.Marks.{IsMarkedBut}
use Rattle.solve_solver.proofs.marking.is_marked_but.Given as goal

abbrev pub invariant-loop-other : goal.invariant-loop-other
invariant-loop-other l = IsMarkedBut (set l.marks l.literal.var false) l.trail.entries (Some l.literal) (take l.other-index l.clause)
