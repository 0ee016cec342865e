use Rattle.std.proofs.Common.{map, take}
use Rattle.std.specs.List.{AllByRecursion}
use Rattle.data_meaning.specs.Database.{Table}
use Rattle.data_records.specs.Namings.{AreRowsKnown}
use Rattle.data_records.specs.Views.{table_data}
use Rattle.data_records.proofs.index.Index.of_tables.Given as goal

abbrev pub invariant-loop-table : goal.invariant-loop-table
invariant-loop-table l = AllByRecursion (λ (t : Table). AreRowsKnown l.index t.model t.records) (map table_data (take l.table-index l.tables))
