use Rattle.check_witness.proofs.Databases.{start}
use Rattle.check_witness.proofs.laws.built_databases_start.Goals as goal

pub returns : goal.returns
returns c = start
