use Rattle.check_witness.proofs.Scripts.{buildable}
use Rattle.check_witness.proofs.laws.scripts_are_buildable.Goals as goal

pub returns : goal.returns
returns c = buildable
