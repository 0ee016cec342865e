use Rattle.std.proofs.Common.{ap, sym, ◌∙◌}
use Rattle.std.specs.Prelude.{Ok}
use Rattle.type_schema.specs.Schema.{ModelInfo, Schema}
use Rattle.type_schema.specs.SchemaViews.{model_info_of}
use Rattle.type_schema.specs.Commands.{create_model, schema_after}
use Rattle.type_typing.specs.Names.{plain_of}
use Rattle.type_commands.proofs.after.after_model.Goals as goal

pub returns : goal.returns
returns c =
    ap (λ (s : Schema). Ok (schema_after s (create_model (model_info_of c.args.info.now)))) (sym c.in_ok-after.ensures)
    ∙ ap (λ (i : ModelInfo). Ok (schema_after (plain_of c.in_ok-after.after) (create_model i))) (sym c.in_ok-info.ensures)
    ∙ c.in_ok-push_model.ensures
