use Rattle.std.proofs.Common.{◌≡◌, map, take}
use Rattle.data_records.specs.Views.{slot_data, value_data}
use Rattle.store_keeper.specs.Changes.{values_of}
use Rattle.store_keeper.proofs.records.values_in.Given as goal

abbrev pub invariant-loop-slot : goal.invariant-loop-slot
invariant-loop-slot l = map value_data l.values.items ≡ values_of (map slot_data (take l.slot-index l.slots))
