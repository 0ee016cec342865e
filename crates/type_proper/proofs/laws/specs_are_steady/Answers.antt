use Rattle.type_proper.proofs.Specs.{specs_are_steady}
use Rattle.type_proper.proofs.laws.specs_are_steady.Goals as goal

pub returns : goal.returns
returns c = specs_are_steady
