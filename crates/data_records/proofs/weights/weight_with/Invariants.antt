use Rattle.std.proofs.Common.{◌≡◌, ◌+◌, ◌-◌, ◌^◌, take}
use Rattle.std.specs.List.{sum_by}
use Rattle.data_records.specs.Room.{weight_of}
use Rattle.data_records.specs.Views.{value_data}
use Rattle.data_records.proofs.weights.weight_with.Given as goal

abbrev pub invariant-loop-value : goal.invariant-loop-value
invariant-loop-value l = l.left + sum_by (λ v. weight_of (value_data v)) (take l.value-index l.values) ≡ 2 ^ 64 - 1 - l.weight
