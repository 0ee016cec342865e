use Rattle.check_witness.proofs.WorkedDatabases.{worked}
use Rattle.check_witness.proofs.laws.worked_databases.Goals as goal

pub returns : goal.returns
returns c = worked
