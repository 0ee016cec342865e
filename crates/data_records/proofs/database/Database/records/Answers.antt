use Rattle.std.proofs.Common.{refl, subst, ◌≡◌, ◌==◌, arith}
use Rattle.std.specs.Option.{option_copied}
use Rattle.std.specs.Prelude.{Some}
use Rattle.std.specs.List.{find}
use Rattle.data_records.proofs.Tables.{records-seen, rising-in}
use Rattle.data_records.proofs.database.Database.records.Goals as goal

pub returns-in-Some : goal.returns-in-Some
returns-in-Some c = record {
  all = rw (← c.self.view_is, ← c.as_slice.ensures.value, records-seen c.as_slice.result.now c.args.m (option_copied c.table_in.result) c.table_in.ensures, c.in-Some.is, c.as_slice-in-Some.ensures.value) refl;
  rising =
      rw (c.as_slice-in-Some.ensures.value)
      (rising-in c.self.inside.tables.items c.args.m c.in-Some.table.now c.self.invariant.0.rising (subst (λ ts. Some c.in-Some.table.now ≡ find (λ t. t.model == c.args.m) ts) c.as_slice.ensures.value c.in-Some.ensures));
}

pub returns-in-None : goal.returns-in-None
returns-in-None c = record {
  all = rw (← c.self.view_is, ← c.as_slice.ensures.value, records-seen c.as_slice.result.now c.args.m (option_copied c.table_in.result) c.table_in.ensures, c.in-None.is) refl;
  rising = λ k below. absurd (omega (arith, below));
}
