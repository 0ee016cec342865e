use Rattle.std.proofs.Common.{◌++◌, sym, ◌∙◌, ap}
use Rattle.std.specs.List.{flat_map}
use Rattle.type_schema.specs.Schema.{ModelInfo}
use Rattle.type_schema.specs.SchemaViews.{model_info_of, script_of}
use Rattle.data_print.specs.Texts.{table_text}
use Rattle.data_print.proofs.Mapped.{flat_map_of_map}
use Rattle.check_witness.specs.Printed.{model_text}
use Rattle.check_report.proofs.witness.write_database.Goals as goal

pub returns : goal.returns
returns c =
    c.in_ok-write_tables.ensures
    ∙ ap (λ models. c.args.out.now ++ flat_map (λ m. table_text (model_text (script_of c.args.t.now) m.number) c.args.base.now (model_info_of m)) models) c.as_slice.ensures
    ∙ ap (λ z. c.args.out.now ++ z)
    (sym (flat_map_of_map (λ (m : ModelInfo). table_text (model_text (script_of c.args.t.now) m.number) c.args.base.now m) model_info_of c.args.t.now.start.models))
