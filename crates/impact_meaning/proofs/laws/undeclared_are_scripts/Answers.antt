use Rattle.impact_meaning.proofs.AsUpdates.{undeclared_scripts}
use Rattle.impact_meaning.proofs.laws.undeclared_are_scripts.Goals as goal

pub returns : goal.returns
returns c = undeclared_scripts
