use Rattle.std.proofs.Common.{[], ◌∷◌, ◌++◌, append_assoc, arith}
use Rattle.std.specs.List.{flat_map}
use Rattle.text_print.specs.Marks.{newline, text_of_marks}
use Rattle.text_print.specs.Commands.{command_line, spelled_command}
use Rattle.text_print.proofs.Joined.{text-append}
use Rattle.text_print.proofs.Loops.{marks_begin, marks_step, marks_done}
use Rattle.text_print.proofs.printer.Printer.commands.Goals as goal

pub loop-command-init : goal.loop-command-init
loop-command-init c = marks_begin command_line c.args.commands.now c.args.self.now

pub loop-command-preserved : goal.loop-command-preserved
loop-command-preserved c =
    rw (c.in_ok-put.ensures, c.in_ok-command.ensures, append_assoc, ← text-append (spelled_command c.command-item.result) (newline ∷ []))
    (marks_step command_line c.args.commands.now c.loop-command.command-index c.command-item.result c.loop-command.self
    (c.args.self.now ++ text_of_marks (flat_map command_line c.args.commands.now)) (omega arith) c.command-item.is c.loop-command.invariant)

pub returns : goal.returns
returns c =
    marks_done command_line c.args.commands.now c.loop-command.command-index c.loop-command.self
    (c.args.self.now ++ text_of_marks (flat_map command_line c.args.commands.now)) (omega arith) c.loop-command.invariant
