use Rattle.duty_meaning.proofs.WorkedFormulas.{worked}
use Rattle.duty_meaning.proofs.laws.worked_formulas.Goals as goal

pub returns : goal.returns
returns c = worked
