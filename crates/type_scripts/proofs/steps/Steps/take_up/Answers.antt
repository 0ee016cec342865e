use Rattle.type_typing.specs.Names.{plain_of}
use Rattle.type_commands.specs.Commands.{typed_command}
use Rattle.type_scripts.specs.Counted.{counted}
use Rattle.type_scripts.proofs.Stepped.{taken_up}
use Rattle.type_scripts.proofs.steps.Steps.take_up.Goals as goal

pub returns : goal.returns
returns c =
    taken_up c.args.number (typed_command counted (plain_of c.args.self.now.last) c.args.c.now) c.args.self.now
    (record { commands = c.push-2.new.self; schemas = c.push.new.self; last = c.replace-before.new.dest }) c.in_ok-after.after c.replace-before.result
    c.in_ok-after.command c.in_ok-after.ensures c.in_ok-push-2.ensures.items c.in_ok-push.ensures.items c.replace-before.ensures.value c.replace-before.ensures.after
