use Rattle.type_schema.specs.SchemaViews.{command_of}
use Rattle.type_typing.specs.Names.{plain_of}
use Rattle.type_scripts.specs.Counted.{counted}
use Rattle.type_scripts.proofs.Stepped.{command_typed}
use Rattle.type_scripts.proofs.commands.step_command.Goals as goal

pub returns : goal.returns
unfolding plain_of
returns c =
    command_typed counted (plain_of c.args.schema.now) (plain_of c.in_ok-after.after) c.args.c.now (command_of c.in_ok-command.command)
    c.in_ok-command_is_small.field-0 c.in_ok-command.ensures c.in_ok-after.ensures c.in_ok-command_is_small.ensures
