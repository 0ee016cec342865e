use Rattle.check_scripts.proofs.Sound.{decidable_are_settled}
use Rattle.check_scripts.proofs.laws.decidable_are_settled.Goals as goal

pub returns : goal.returns
returns c = decidable_are_settled
