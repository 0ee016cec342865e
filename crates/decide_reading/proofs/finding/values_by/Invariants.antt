use Rattle.std.proofs.Common.{◌≡◌, map}
use Rattle.std.specs.List.{range_with_len}
use Rattle.decide_reading.specs.Columns.{entry_by}
use Rattle.decide_reading.proofs.finding.values_by.Given as goal

abbrev pub invariant-loop-id : goal.invariant-loop-id
invariant-loop-id l = l.values ≡ map (entry_by l.columns) (range_with_len 0 l.id)
