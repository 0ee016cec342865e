use Rattle.online_meaning.proofs.Unmarked.{unmarked_read_alike}
use Rattle.online_meaning.proofs.laws.marks_suffice.Goals as goal

pub returns : goal.returns
returns c = unmarked_read_alike
