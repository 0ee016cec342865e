use Rattle.std.proofs.Common.{◌≡◌, ◌++◌, map, take}
use Rattle.data_records.specs.Views.{table_data}
use Rattle.type_schema.specs.SchemaViews.{model_info_of, schema_of}
use Rattle.check_witness.specs.Built.{built_table}
use Rattle.check_witness.proofs.source.Source.push_tables.Given as goal

abbrev pub invariant-loop-info : goal.invariant-loop-info
invariant-loop-info l =
    map table_data l.tables.items
    ≡ map table_data l.fn.tables.items
    ++ map (λ m. built_table (schema_of l.self.schema.now) l.self.structure.now (model_info_of m)) (take l.info-index l.models)
