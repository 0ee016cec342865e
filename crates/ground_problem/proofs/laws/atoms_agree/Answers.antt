use Rattle.ground_problem.proofs.AtomsSaid.{atom_said}
use Rattle.ground_problem.proofs.laws.atoms_agree.Goals as goal

pub returns : goal.returns
returns c = λ g table scope env atom over size. atom_said g table scope env size atom over
