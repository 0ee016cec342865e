use Rattle.text_parse.specs.Items.{commands_from}
use Rattle.text_parse.proofs.Turns.{Joined}
use Rattle.text_parse.proofs.commands.commands.Given as goal

abbrev pub invariant-loop-commands : goal.invariant-loop-commands
invariant-loop-commands l = Joined (commands_from 256 l.fn.cursor) l.commands (commands_from l.left l.cursor)

abbrev pub decreases-loop-commands : goal.decreases-loop-commands
decreases-loop-commands l = l.left
