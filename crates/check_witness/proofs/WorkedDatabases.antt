-- The worked databases are what the definition gives.
use Rattle.std.proofs.Common.{refl}
use Rattle.check_witness.specs.Worked.{WorkedDatabases}

pub worked : WorkedDatabases
worked = record { in_a_cycle = refl; in_any_order = refl; of_nobody = refl }
