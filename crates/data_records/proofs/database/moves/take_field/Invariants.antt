-- Where what is left loses the field too, all does.
use Rattle.data_records.specs.Moved.{without_field_in}
use Rattle.data_records.specs.Views.{table_data}
use Rattle.data_records.proofs.Turned.{IsTurned}
use Rattle.data_records.proofs.database.moves.take_field.Given as goal

abbrev pub invariant-loop-table : goal.invariant-loop-table
invariant-loop-table l = IsTurned table_data (without_field_in l.m l.f) l.initial.tables l.tables l.table-index
