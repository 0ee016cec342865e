-- The worked sizes, by evaluation.
use Rattle.std.proofs.Common.{refl}
use Rattle.type_scripts.specs.Worked.{WorkedRemoved}

pub worked_removed : WorkedRemoved
worked_removed = record { last_field = refl; last_right = refl; formula = refl; last_option = refl; over_start = refl }
