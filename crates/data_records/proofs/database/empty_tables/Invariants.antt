use Rattle.std.proofs.Common.{◌≡◌, map, take}
use Rattle.type_schema.specs.SchemaViews.{model_info_of}
use Rattle.data_records.specs.Inserted.{empty_table}
use Rattle.data_records.specs.Views.{table_data}
use Rattle.data_records.proofs.database.empty_tables.Given as goal

abbrev pub invariant-loop-info : goal.invariant-loop-info
invariant-loop-info l = map table_data l.tables.items ≡ map empty_table (map model_info_of (take l.info-index l.models))
