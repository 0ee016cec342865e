-- Where what is left is numbered anew too, all is.
use Rattle.std.proofs.Common.{map}
use Rattle.type_schema.specs.SchemaViews.{model_info_of}
use Rattle.data_records.specs.Renumbered.{renumbered_table}
use Rattle.data_records.specs.Views.{table_data}
use Rattle.data_records.proofs.Turned.{IsTurned}
use Rattle.data_records.proofs.database.renumber_tables.Given as goal

abbrev pub invariant-loop-table : goal.invariant-loop-table
invariant-loop-table l = IsTurned table_data (renumbered_table (map model_info_of l.models)) l.initial.tables l.tables l.table-index
