use Rattle.type_typing.specs.Names.{plain_of}
use Rattle.type_commands.proofs.Changed.{statics_replaced}
use Rattle.type_commands.proofs.changes.without_static.Goals as goal

pub returns : goal.returns
unfolding plain_of
returns c =
    statics_replaced c.in_ok-after.after c.args.schema.now c.in_ok-statics.statics _ c.in_ok-after.ensures (rw c.as_slice.ensures at c.in_ok-statics.ensures)
