use Rattle.type_commands.proofs.Changed.{field_pushed}
use Rattle.type_commands.proofs.changes.model_with_field.Goals as goal

pub returns : goal.returns
returns c =
    field_pushed c.in_ok-changed.changed c.args.info.now c.in_ok-field.field c.args.field.now _ c.in_ok-changed.ensures c.in_ok-field.ensures c.in_ok-push.ensures.ok
