use Rattle.type_anew.proofs.RetypingKept.{commands_keep_room}
use Rattle.type_anew.proofs.retyping_laws.commands_keep_room.Goals as goal

pub returns : goal.returns
returns c = commands_keep_room
