use Rattle.std.proofs.Common.{◌++◌, map, ap, sym, ◌∙◌}
use Rattle.data_records.specs.Views.{table_data}
use Rattle.type_schema.specs.SchemaViews.{model_info_of, schema_of}
use Rattle.check_witness.specs.Built.{built_table}
use Rattle.check_witness.proofs.Kept.{map-twice}
use Rattle.check_witness.proofs.source.Source.tables.Goals as goal

pub returns : goal.returns
returns c =
    c.in_ok-push_tables.ensures
    ∙ ap (λ ts. map table_data ts ++ map (λ m. built_table (schema_of c.args.self.now.schema.now) c.args.self.now.structure.now (model_info_of m)) c.as_slice.result.now) c.new-tables.ensures.items
    ∙ ap (map (λ m. built_table (schema_of c.args.self.now.schema.now) c.args.self.now.structure.now (model_info_of m))) c.as_slice.ensures
    ∙ sym (map-twice (built_table (schema_of c.args.self.now.schema.now) c.args.self.now.structure.now) model_info_of c.args.self.now.schema.now.models)
