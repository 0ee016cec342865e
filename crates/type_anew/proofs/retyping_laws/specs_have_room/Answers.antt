use Rattle.type_anew.proofs.RetypingKept.{specs_have_room}
use Rattle.type_anew.proofs.retyping_laws.specs_have_room.Goals as goal

pub returns : goal.returns
returns c = specs_have_room
