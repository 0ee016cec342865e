use Rattle.std.proofs.Common.{◌≡◌, map, take}
use Rattle.data_records.specs.Views.{value_data}
use Rattle.data_members.proofs.meaning.extended.Given as goal

abbrev pub invariant-loop-value : goal.invariant-loop-value
invariant-loop-value l = map value_data l.all.items ≡ map value_data (take l.value-index l.env)
