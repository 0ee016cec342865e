use Rattle.std.proofs.Common.{◌≡◌, map, take}
use Rattle.data_records.specs.Views.{record_data}
use Rattle.data_records.proofs.table.copy_records.Given as goal

abbrev pub invariant-loop-record : goal.invariant-loop-record
invariant-loop-record l = map record_data l.copies.items ≡ map record_data (take l.record-index l.records)
