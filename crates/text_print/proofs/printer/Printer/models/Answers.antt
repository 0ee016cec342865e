use Rattle.std.proofs.Common.{◌++◌, arith}
use Rattle.std.specs.List.{flat_map}
use Rattle.text_print.specs.Marks.{text_of_marks}
use Rattle.text_print.specs.Models.{model_lines}
use Rattle.text_print.proofs.Loops.{marks_begin, marks_step, marks_done}
use Rattle.text_print.proofs.printer.Printer.models.Goals as goal

pub loop-model-init : goal.loop-model-init
loop-model-init c = marks_begin model_lines c.args.models.now c.args.self.now

pub loop-model-preserved : goal.loop-model-preserved
loop-model-preserved c =
    rw (c.in_ok-model_lines.ensures)
    (marks_step model_lines c.args.models.now c.loop-model.model-index c.model-item.result c.loop-model.self
    (c.args.self.now ++ text_of_marks (flat_map model_lines c.args.models.now)) (omega arith) c.model-item.is c.loop-model.invariant)

pub returns : goal.returns
returns c =
    marks_done model_lines c.args.models.now c.loop-model.model-index c.loop-model.self
    (c.args.self.now ++ text_of_marks (flat_map model_lines c.args.models.now)) (omega arith) c.loop-model.invariant
