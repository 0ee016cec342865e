use Rattle.certify_scripts.proofs.Sound.{certified_secure}
use Rattle.certify_scripts.proofs.laws.certified_are_secure.Goals as goal

pub returns : goal.returns
returns c = certified_secure
