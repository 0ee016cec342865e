use Rattle.data_records.specs.Views.{record_data}
use Rattle.data_judge.specs.Ranged.{HaveRanges}
use Rattle.data_judge.proofs.Each.{Left}
use Rattle.data_judge.proofs.limits.records_are_ranged.Given as goal

abbrev pub invariant-loop-row : goal.invariant-loop-row
invariant-loop-row l = Left (λ r. HaveRanges (record_data r).slots) l.records l.row-index
