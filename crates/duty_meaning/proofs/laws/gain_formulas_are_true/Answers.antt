use Rattle.duty_meaning.proofs.Gains.{true_gains}
use Rattle.duty_meaning.proofs.laws.gain_formulas_are_true.Goals as goal

pub returns : goal.returns
returns c = true_gains
