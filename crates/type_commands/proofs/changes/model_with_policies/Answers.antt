use Rattle.type_commands.proofs.Changed.{policies_replaced}
use Rattle.type_commands.proofs.changes.model_with_policies.Goals as goal

pub returns : goal.returns
returns c =
    policies_replaced c.in_ok-changed.changed c.args.info.now c.in_ok-create.create c.in_ok-delete.delete _ _ c.in_ok-changed.ensures c.in_ok-create.ensures
    c.in_ok-delete.ensures
