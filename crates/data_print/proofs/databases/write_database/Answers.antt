use Rattle.type_schema.specs.SchemaViews.{model_info_of}
use Rattle.data_print.specs.Texts.{table_text}
use Rattle.data_print.proofs.Mapped.{flat_map_of_map}
use Rattle.data_print.proofs.databases.write_database.Goals as goal

pub returns : goal.returns
returns c =
    rw (flat_map_of_map (λ m. table_text m.name c.args.database.now m) model_info_of c.args.s.now.models, ← c.as_slice.ensures) c.write_tables.ensures
