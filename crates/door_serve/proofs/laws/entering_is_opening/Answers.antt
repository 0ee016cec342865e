use Rattle.door_serve.proofs.Entering.{entering-opens}
use Rattle.door_serve.proofs.laws.entering_is_opening.Goals as goal

pub returns : goal.returns
returns c = entering-opens
