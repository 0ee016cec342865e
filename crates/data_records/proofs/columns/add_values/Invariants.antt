-- With the values that are left, all have theirs; and without those that were added, all are as before.
use Rattle.std.proofs.Common.{◌≡◌, ◌≤◌, length, map, vec_len}
use Rattle.data_records.specs.Moved.{with_slots}
use Rattle.data_records.specs.TakenBack.{taken_back}
use Rattle.data_records.specs.Views.{record_data, value_data}
use Rattle.data_records.proofs.columns.add_values.Given as goal

abbrev pub invariant-loop-value : goal.invariant-loop-value
invariant-loop-value l = record {
  within : length l.values.items ≤ length l.records;
  on : with_slots l.f (map value_data l.values.items) (map record_data l.records) ≡ with_slots l.f (map value_data l.fn.values.items) (map record_data l.initial.records);
  back : taken_back (length l.values.items) (map record_data l.records) ≡ map record_data l.initial.records;
}

abbrev pub decreases-loop-value : goal.decreases-loop-value
decreases-loop-value l = vec_len l.values
