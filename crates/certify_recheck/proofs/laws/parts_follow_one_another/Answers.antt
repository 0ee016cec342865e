use Rattle.certify_recheck.proofs.Following.{parts_follow}
use Rattle.certify_recheck.proofs.laws.parts_follow_one_another.Goals as goal

pub returns : goal.returns
returns c = parts_follow
