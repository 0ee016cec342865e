use Rattle.type_proper.proofs.Scripted.{scripts_are_typed}
use Rattle.type_proper.proofs.laws.scripts_are_typed.Goals as goal

pub returns : goal.returns
returns c = scripts_are_typed
