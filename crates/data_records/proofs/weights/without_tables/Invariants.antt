use Rattle.std.proofs.Common.{◌≡◌, ◌+◌, take}
use Rattle.std.specs.List.{sum_by}
use Rattle.data_records.specs.Room.{weight_of}
use Rattle.data_records.specs.Views.{value_data}
use Rattle.data_records.proofs.weights.without_tables.Given as goal

abbrev pub invariant-loop-table : goal.invariant-loop-table
invariant-loop-table l = l.left + sum_by (λ t. sum_by (λ r. sum_by (λ slot. weight_of (value_data slot.value)) r.slots) t.records.items) (take l.table-index l.tables) ≡ l.fn.left
