use Rattle.check_scripts.proofs.Sound.{accepted_are_secure}
use Rattle.check_scripts.proofs.laws.accepted_are_secure.Goals as goal

pub returns : goal.returns
returns c = accepted_are_secure
