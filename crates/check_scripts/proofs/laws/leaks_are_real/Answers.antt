use Rattle.check_scripts.proofs.Sound.{leaks_are_real}
use Rattle.check_scripts.proofs.laws.leaks_are_real.Goals as goal

pub returns : goal.returns
returns c = leaks_are_real
