use Rattle.certify_problem.proofs.Assigned.{assigned}
use Rattle.certify_problem.proofs.laws.structures_give_assignments.Goals as goal

pub returns : goal.returns
returns c = assigned
