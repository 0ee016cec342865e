use Rattle.duty_meaning.proofs.WorkedFormulas.{expanded}
use Rattle.duty_meaning.proofs.laws.expanded_is_counted.Goals as goal

pub returns : goal.returns
returns c = expanded
