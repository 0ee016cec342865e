use Rattle.std.proofs.Common.{refl, subst, ◌≡◌, ◌==◌}
use Rattle.std.specs.Option.{option_copied}
use Rattle.std.specs.Prelude.{Some}
use Rattle.std.specs.List.{find}
use Rattle.data_records.specs.Views.{record_data}
use Rattle.data_records.proofs.Searches.{find-seen}
use Rattle.data_records.proofs.Tables.{records-seen, rising-in}
use Rattle.data_records.proofs.database.Database.get.Goals as goal

pub record_in-requires : goal.record_in-requires
record_in-requires c =
    rw (c.as_slice-in-Some.ensures.value)
    (rising-in c.self.inside.tables.items c.args.m c.in-Some.table.now c.self.invariant.0.rising (subst (λ ts. Some c.in-Some.table.now ≡ find (λ t. t.model == c.args.m) ts) c.as_slice.ensures.value c.in-Some.ensures))

pub returns-in-Some : goal.returns-in-Some
returns-in-Some c =
    rw (← c.self.view_is, ← c.as_slice.ensures.value, records-seen c.as_slice.result.now c.args.m (option_copied c.table_in.result) c.table_in.ensures, c.in-Some.is)
    (rw (← c.as_slice-in-Some.ensures.value, find-seen (λ r. r.id == c.args.id) record_data c.as_slice-in-Some.result.now, ← c.record_in.ensures) refl)

pub returns-in-None : goal.returns-in-None
returns-in-None c =
    rw (← c.self.view_is, ← c.as_slice.ensures.value, records-seen c.as_slice.result.now c.args.m (option_copied c.table_in.result) c.table_in.ensures, c.in-None.is) refl
