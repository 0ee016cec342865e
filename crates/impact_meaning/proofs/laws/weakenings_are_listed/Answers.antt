use Rattle.impact_meaning.proofs.Weakenings.{weakenings_listed}
use Rattle.impact_meaning.proofs.laws.weakenings_are_listed.Goals as goal

pub returns : goal.returns
returns c = weakenings_listed
