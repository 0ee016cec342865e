use Rattle.check_witness.proofs.Structures.{come-back}
use Rattle.check_witness.proofs.laws.structures_come_back.Goals as goal

pub returns : goal.returns
returns c = come-back
