use Rattle.certify_problem.proofs.Below.{variables_below}
use Rattle.certify_problem.proofs.laws.variables_are_below.Goals as goal

pub returns : goal.returns
returns c = variables_below
