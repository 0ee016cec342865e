use Rattle.duty_meaning.proofs.UsedCells.{uses-read}
use Rattle.duty_meaning.proofs.laws.uses_read_what_is_touched.Goals as goal

pub returns : goal.returns
returns c = uses-read
