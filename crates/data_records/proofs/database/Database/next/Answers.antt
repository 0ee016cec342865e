use Rattle.std.proofs.Common.{refl}
use Rattle.std.specs.Option.{option_copied}
use Rattle.data_records.proofs.Tables.{next-seen}
use Rattle.data_records.proofs.database.Database.next.Goals as goal

pub returns-in-Some : goal.returns-in-Some
returns-in-Some c =
    rw (← c.self.view_is, ← c.as_slice.ensures.value, next-seen c.as_slice.result.now c.args.m (option_copied c.table_in.result) c.table_in.ensures, c.in-Some.is) refl

pub returns-in-None : goal.returns-in-None
returns-in-None c =
    rw (← c.self.view_is, ← c.as_slice.ensures.value, next-seen c.as_slice.result.now c.args.m (option_copied c.table_in.result) c.table_in.ensures, c.in-None.is) refl
