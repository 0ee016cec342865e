use Rattle.std.proofs.Common.{◌≡◌, map, take}
use Rattle.data_records.specs.Views.{slot_data}
use Rattle.door_judge.proofs.setting.copy_slots.Given as goal

abbrev pub invariant-loop-slot : goal.invariant-loop-slot
invariant-loop-slot l = map slot_data l.copies.items ≡ map slot_data (take l.slot-index l.slots)
