use Rattle.std.proofs.Common.{refl}
use Rattle.std.proofs.lemmas.List.Sorted.{IsPermutation-map}
use Rattle.data_meaning.specs.Database.{Record}
use Rattle.data_records.specs.declared.record.Record as code_record
use Rattle.data_records.specs.Views.{record_data}
use Rattle.data_judge.proofs.Order.{order-seen}
use Rattle.data_judge.proofs.tables.table_of.Goals as goal

pub returns-in_ok-records-in-Some : goal.returns-in_ok-records-in-Some
returns-in_ok-records-in-Some c =
    let found = rw c.bytes.ensures.bytes at c.in-Some.ensures in
    let rows = rw (c.as_slice.ensures, c.as_slice-in-Some.ensures) at c.in_ok-records-in-Some.ensures in
    record {
      model = refl;
      next = rw (← found);
      records = rw (← found, ← rows) (IsPermutation-map record_data _ _ c.by_id.ensures.same);
      order = order-seen (λ (r : code_record.Record). r.id) record_data (λ (r : Record). r.id) (λ r. refl) _ c.by_id.ensures.order;
    }
