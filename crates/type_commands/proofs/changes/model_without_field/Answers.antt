use Rattle.type_commands.proofs.Changed.{fields_replaced}
use Rattle.type_commands.proofs.changes.model_without_field.Goals as goal

pub returns : goal.returns
returns c =
    fields_replaced c.in_ok-changed.changed c.args.info.now c.in_ok-fields.fields _ c.in_ok-changed.ensures (rw c.as_slice.ensures at c.in_ok-fields.ensures)
