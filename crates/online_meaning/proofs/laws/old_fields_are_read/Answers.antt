use Rattle.online_meaning.proofs.Plain.{old_read}
use Rattle.online_meaning.proofs.laws.old_fields_are_read.Goals as goal

pub returns : goal.returns
returns c = old_read
