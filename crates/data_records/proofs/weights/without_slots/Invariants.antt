use Rattle.std.proofs.Common.{◌≡◌, ◌+◌, take}
use Rattle.std.specs.List.{sum_by}
use Rattle.data_records.specs.Room.{weight_of}
use Rattle.data_records.specs.Views.{value_data}
use Rattle.data_records.proofs.weights.without_slots.Given as goal

abbrev pub invariant-loop-slot : goal.invariant-loop-slot
invariant-loop-slot l = l.left + sum_by (λ slot. weight_of (value_data slot.value)) (take l.slot-index l.slots) ≡ l.fn.left
