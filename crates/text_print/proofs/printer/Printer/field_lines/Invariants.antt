-- What is left to write, after what is written.
use Rattle.std.proofs.Common.{◌++◌, drop}
use Rattle.std.specs.List.{flat_map}
use Rattle.text_print.specs.Marks.{text_of_marks}
use Rattle.text_print.specs.Models.{field_line}
use Rattle.text_print.proofs.Loops.{AreLines}
use Rattle.text_print.proofs.printer.Printer.field_lines.Given as goal

abbrev pub invariant-loop-field : goal.invariant-loop-field
invariant-loop-field l = AreLines field_line (drop l.field-index l.fields) l.self (l.fn.self ++ text_of_marks (flat_map field_line l.fn.fields))
