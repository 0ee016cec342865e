use Rattle.type_anew.proofs.Moved.{databases-move}
use Rattle.type_anew.proofs.renumbered_laws.databases_move.Goals as goal

pub returns : goal.returns
returns c = databases-move
