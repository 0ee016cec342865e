-- Where what is left is taken back too, all is.
use Rattle.std.proofs.Common.{◌≡◌, map}
use Rattle.data_records.specs.TakenBack.{taken_back}
use Rattle.data_records.specs.Views.{record_data}
use Rattle.data_records.proofs.columns.take_back.Given as goal

abbrev pub invariant-loop-at : goal.invariant-loop-at
invariant-loop-at l = taken_back l.at (map record_data l.records) ≡ taken_back l.fn.stay (map record_data l.initial.records)
