use Rattle.type_anew.proofs.RetypingKept.{scripts_keep_room}
use Rattle.type_anew.proofs.retyping_laws.scripts_keep_room.Goals as goal

pub returns : goal.returns
returns c = scripts_keep_room
