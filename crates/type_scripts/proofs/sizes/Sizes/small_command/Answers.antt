use Rattle.std.proofs.Common.{subst, sym}
use Rattle.type_schema.specs.declared.commands.TCommand.{TCommand}
use Rattle.type_schema.specs.SchemaViews.{command_of, schema_of}
use Rattle.type_specs.specs.InTurn.{GivesSeen}
use Rattle.type_commands.specs.Commands.{command_sizes}
use Rattle.type_scripts.specs.Counted.{counted}
use Rattle.type_scripts.specs.Counting.{counted_at}
use Rattle.type_scripts.proofs.sizes.Sizes.small_command.Goals as goal

pub returns-in-AddField : goal.returns-in-AddField
returns-in-AddField c =
    subst
    (λ (command : TCommand).
    GivesSeen (λ left. left.now) (counted_at (command_sizes counted (schema_of c.args.self.now.schema.now) (command_of command)) c.args.places.now) c.small_new_field.result)
    (sym c.in-AddField.is) c.small_new_field.ensures
