use Rattle.type_scripts.specs.Counted.{counted}
use Rattle.store_apply.proofs.laws.specs_settle.Goals as goal

pub returns : goal.returns
returns c = λ spec s typed steady.
    let room = c.specs_have_room.ensures spec s typed in
    record { proper = steady.proper; told = c.specs_are_told.ensures counted spec s typed; numbers = room.0; sizes = room.1 }
