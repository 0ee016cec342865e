-- What is left to write, after what is written.
use Rattle.std.proofs.Common.{◌++◌, drop}
use Rattle.std.specs.List.{flat_map}
use Rattle.text_print.specs.Marks.{text_of_marks}
use Rattle.text_print.specs.Models.{static_line}
use Rattle.text_print.proofs.Loops.{AreLines}
use Rattle.text_print.proofs.printer.Printer.statics.Given as goal

abbrev pub invariant-loop-name : goal.invariant-loop-name
invariant-loop-name l = AreLines static_line (drop l.name-index l.statics) l.self (l.fn.self ++ text_of_marks (flat_map static_line l.fn.statics))
