use Rattle.duty_meaning.proofs.Speaking.{over_and_closed}
use Rattle.duty_meaning.proofs.laws.formulas_are_over.Goals as goal

pub returns : goal.returns
returns c = over_and_closed
