-- What is left to write, after what is written.
use Rattle.std.proofs.Common.{◌++◌, drop}
use Rattle.std.specs.List.{flat_map}
use Rattle.text_print.specs.Marks.{text_of_marks}
use Rattle.text_print.specs.Commands.{command_line}
use Rattle.text_print.proofs.Loops.{AreLines}
use Rattle.text_print.proofs.printer.Printer.commands.Given as goal

abbrev pub invariant-loop-command : goal.invariant-loop-command
invariant-loop-command l = AreLines command_line (drop l.command-index l.commands) l.self (l.fn.self ++ text_of_marks (flat_map command_line l.fn.commands))
