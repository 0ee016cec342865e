-- Where what is left is numbered anew too, all is.
use Rattle.std.proofs.Common.{map}
use Rattle.type_schema.specs.SchemaViews.{model_info_of}
use Rattle.data_records.specs.Renumbered.{new_field, record_numbered_by}
use Rattle.data_records.specs.Views.{record_data}
use Rattle.data_records.proofs.Turned.{IsTurned}
use Rattle.data_records.proofs.table.renumber_records.Given as goal

abbrev pub invariant-loop-made : goal.invariant-loop-made
invariant-loop-made l = IsTurned record_data (record_numbered_by (new_field (map model_info_of l.models) l.m)) l.initial.records l.records l.made-index
