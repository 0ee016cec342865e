use Rattle.std.proofs.Common.{List, map}
use Rattle.std.specs.Prelude.{filter, not, ◌==◌}
use Rattle.type_schema.specs.Schema.{ModelInfo}
use Rattle.type_schema.specs.SchemaViews.{model_info_of}
use Rattle.type_typing.specs.Names.{plain_of}
use Rattle.type_commands.proofs.Changed.{models_replaced, removed_replaced}
use Rattle.type_commands.proofs.changes.without_model.Goals as goal

pub returns : goal.returns
unfolding plain_of
returns c =
    let seen : List ModelInfo = filter (λ (info : ModelInfo). not (info.number == c.args.number)) (map model_info_of c.args.schema.now.models) in
    removed_replaced c.in_ok-after.after (plain_of c.args.schema.now) c.in_ok-models.models seen c.in_ok-removed.removed _
    (models_replaced c.in_ok-after.after c.args.schema.now c.in_ok-models.models seen c.in_ok-after.ensures (rw c.as_slice.ensures at c.in_ok-models.ensures))
    c.in_ok-removed.ensures
