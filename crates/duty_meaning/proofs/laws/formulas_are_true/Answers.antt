use Rattle.duty_meaning.proofs.Truths.{true_formulas}
use Rattle.duty_meaning.proofs.laws.formulas_are_true.Goals as goal

pub returns : goal.returns
returns c = true_formulas
