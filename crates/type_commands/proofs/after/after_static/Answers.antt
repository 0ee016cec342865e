use Rattle.std.proofs.Common.{ap, sym, ◌∙◌}
use Rattle.std.specs.Prelude.{Ok}
use Rattle.type_schema.specs.Schema.{StaticInfo, Schema}
use Rattle.type_schema.specs.SchemaViews.{static_info_of}
use Rattle.type_schema.specs.Commands.{add_static, schema_after}
use Rattle.type_typing.specs.Names.{plain_of}
use Rattle.type_commands.proofs.after.after_static.Goals as goal

pub returns : goal.returns
returns c =
    ap (λ (s : Schema). Ok (schema_after s (add_static (static_info_of c.args.info.now)))) (sym c.in_ok-after.ensures)
    ∙ ap (λ (i : StaticInfo). Ok (schema_after (plain_of c.in_ok-after.after) (add_static i))) (sym c.in_ok-info.ensures)
    ∙ c.in_ok-push_static.ensures
