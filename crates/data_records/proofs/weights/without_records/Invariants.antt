use Rattle.std.proofs.Common.{◌≡◌, ◌+◌, take}
use Rattle.std.specs.List.{sum_by}
use Rattle.data_records.specs.Room.{weight_of}
use Rattle.data_records.specs.Views.{value_data}
use Rattle.data_records.proofs.weights.without_records.Given as goal

abbrev pub invariant-loop-made : goal.invariant-loop-made
invariant-loop-made l = l.left + sum_by (λ r. sum_by (λ slot. weight_of (value_data slot.value)) r.slots) (take l.made-index l.records) ≡ l.fn.left
