use Rattle.std.proofs.Common.{take}
use Rattle.solve_solver.proofs.Looks.{Looked}
use Rattle.solve_solver.proofs.looking.look_into.Given as goal

abbrev pub invariant-loop-literal : goal.invariant-loop-literal
invariant-loop-literal l = Looked l.trail.entries (take l.literal-index l.clause) l.other l.has_other
