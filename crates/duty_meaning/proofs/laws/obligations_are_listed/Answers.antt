use Rattle.duty_meaning.proofs.Listed.{obligations-listed}
use Rattle.duty_meaning.proofs.laws.obligations_are_listed.Goals as goal

pub returns : goal.returns
returns c = obligations-listed
