use Rattle.std.proofs.Common.{◌≡◌, ◌+◌, drop}
use Rattle.std.specs.List.{sum_by}
use Rattle.data_records.specs.Room.{record_weight}
use Rattle.data_records.specs.Views.{record_data}
use Rattle.data_judge.proofs.limits.without_records.Given as goal

abbrev pub invariant-loop-row : goal.invariant-loop-row
invariant-loop-row l = l.fn.left + sum_by (λ r. record_weight (record_data r)) (drop l.row-index l.records) ≡ l.left + sum_by (λ r. record_weight (record_data r)) l.records
