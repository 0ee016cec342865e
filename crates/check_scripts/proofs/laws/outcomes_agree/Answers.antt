use Rattle.check_scripts.proofs.Agree.{outcomes_agree}
use Rattle.check_scripts.proofs.laws.outcomes_agree.Goals as goal

pub returns : goal.returns
returns c = outcomes_agree
