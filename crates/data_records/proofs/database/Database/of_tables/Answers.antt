use Rattle.std.proofs.Common.{length, ap, sym, ◌∙◌}
use Rattle.std.specs.List.{sum_by}
use Rattle.data_records.specs.Room.{weight_of}
use Rattle.data_records.specs.Views.{value_data}
use Rattle.data_records.proofs.Summed.{tables_weigh, tables_count}
use Rattle.data_records.proofs.database.Database.of_tables.Goals as goal

pub invariant_of-result : goal.invariant_of-result
invariant_of-result c = (
  record {
    rising = c.requires.rising;
    given = c.requires.given;
    counted = c.in-Some-Some.ensures ∙ ap (sum_by (λ t. length t.records.items)) c.as_slice-all.ensures.value ∙ sym (tables_count c.args.tables.items);
    weighed =
        c.in-Some-Some.ensures'
        ∙ ap (sum_by (λ t. sum_by (λ r. sum_by (λ slot. weight_of (value_data slot.value)) r.slots) t.records.items)) c.as_slice-all.ensures.value
        ∙ sym (tables_weigh c.args.tables.items);
  },
  λ n i g. c.none.ensures n i g _,
)
