use Rattle.data_meaning.proofs.Members.{members-there}
use Rattle.data_meaning.proofs.laws.members_are_there.Goals as goal

pub returns : goal.returns
returns c = members-there
