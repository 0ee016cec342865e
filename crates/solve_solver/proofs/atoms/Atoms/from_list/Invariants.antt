use Rattle.std.proofs.Common.{◌≡◌, take}
use Rattle.solve_solver.proofs.atoms.Atoms.from_list.Given as goal

abbrev pub invariant-loop-atom : goal.invariant-loop-atom
invariant-loop-atom g l = l.atoms ≡ take l.atom-index l.list
