use Rattle.std.proofs.Common.{ap, rules, ◌∙◌}
use Rattle.std.specs.Prelude.{Ok}
use Rattle.type_schema.specs.SchemaViews.{field_info_of}
use Rattle.type_schema.specs.Views.{init_of}
use Rattle.type_typing.specs.Names.{plain_of}
use Rattle.type_commands.proofs.Changed.{after_new_field}
use Rattle.type_commands.proofs.after.after_field.Goals as goal

pub returns : goal.returns
returns c =
    ap (λ s. Ok s)
    (after_new_field (plain_of c.args.schema.now) (plain_of c.in_ok-after.after) c.args.model (field_info_of c.args.field.now) (field_info_of c.in_ok-copy.copy)
    (init_of c.args.init.now.value) (init_of c.in_ok-init.init.value) c.in_ok-copy.ensures (search rules) c.in_ok-after.ensures)
    ∙ c.in_ok-push_added.ensures
