use Rattle.std.proofs.Common.{◌≡◌, map, take}
use Rattle.data_records.specs.Views.{table_data}
use Rattle.data_records.proofs.database.copy_tables.Given as goal

abbrev pub invariant-loop-table : goal.invariant-loop-table
invariant-loop-table l = map table_data l.copies.items ≡ map table_data (take l.table-index l.tables)
