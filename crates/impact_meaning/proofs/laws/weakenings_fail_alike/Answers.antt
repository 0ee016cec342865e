use Rattle.impact_meaning.proofs.Weakenings.{fail_alike}
use Rattle.impact_meaning.proofs.laws.weakenings_fail_alike.Goals as goal

pub returns : goal.returns
returns c = fail_alike
