use Rattle.duty_meaning.proofs.Shapes as shapes
use Rattle.duty_meaning.proofs.laws.unsatisfied_secure.Goals as goal

pub returns : goal.returns
returns c = shapes.unsatisfied_secure
