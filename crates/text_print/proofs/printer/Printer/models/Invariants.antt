-- What is left to write, after what is written.
use Rattle.std.proofs.Common.{◌++◌, drop}
use Rattle.std.specs.List.{flat_map}
use Rattle.text_print.specs.Marks.{text_of_marks}
use Rattle.text_print.specs.Models.{model_lines}
use Rattle.text_print.proofs.Loops.{AreLines}
use Rattle.text_print.proofs.printer.Printer.models.Given as goal

abbrev pub invariant-loop-model : goal.invariant-loop-model
invariant-loop-model l = AreLines model_lines (drop l.model-index l.models) l.self (l.fn.self ++ text_of_marks (flat_map model_lines l.fn.models))
