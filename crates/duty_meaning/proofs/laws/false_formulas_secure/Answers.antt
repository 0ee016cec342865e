use Rattle.duty_meaning.proofs.StepSecure.{secure_exactly}
use Rattle.duty_meaning.proofs.laws.false_formulas_secure.Goals as goal

pub returns : goal.returns
returns c = secure_exactly
