use Rattle.type_typing.specs.Names.{plain_of}
use Rattle.type_commands.proofs.Changed.{models_replaced}
use Rattle.type_commands.proofs.changes.changed.Goals as goal

pub returns : goal.returns
unfolding plain_of
returns c =
    models_replaced c.in_ok-after.after c.args.schema.now c.in_ok-models.models _ c.in_ok-after.ensures (rw c.as_slice.ensures at c.in_ok-models.ensures)
