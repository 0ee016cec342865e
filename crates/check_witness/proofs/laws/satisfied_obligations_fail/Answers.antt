use Rattle.check_witness.proofs.Failing.{satisfied}
use Rattle.check_witness.proofs.laws.satisfied_obligations_fail.Goals as goal

pub returns : goal.returns
returns c = satisfied
