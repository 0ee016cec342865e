use Rattle.data_judge.proofs.Examples.{worked}
use Rattle.data_judge.proofs.laws.worked_data.Goals as goal

pub returns : goal.returns
returns c = worked
