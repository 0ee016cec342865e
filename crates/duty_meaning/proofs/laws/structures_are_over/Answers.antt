use Rattle.duty_meaning.proofs.Shapes as shapes
use Rattle.duty_meaning.proofs.laws.structures_are_over.Goals as goal

pub returns : goal.returns
returns c = shapes.structures_are_over
