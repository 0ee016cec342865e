use Rattle.std.proofs.Common.{◌++◌, arith}
use Rattle.std.specs.List.{flat_map}
use Rattle.text_print.specs.Marks.{text_of_marks}
use Rattle.text_print.specs.Models.{static_line}
use Rattle.text_print.proofs.Loops.{marks_begin, marks_step, marks_done}
use Rattle.text_print.proofs.printer.Printer.statics.Goals as goal

pub loop-name-init : goal.loop-name-init
loop-name-init c = marks_begin static_line c.args.statics.now c.args.self.now

pub loop-name-preserved : goal.loop-name-preserved
loop-name-preserved c =
    rw (c.in_ok-static_line.ensures)
    (marks_step static_line c.args.statics.now c.loop-name.name-index c.name-item.result c.loop-name.self
    (c.args.self.now ++ text_of_marks (flat_map static_line c.args.statics.now)) (omega arith) c.name-item.is c.loop-name.invariant)

pub returns : goal.returns
returns c =
    marks_done static_line c.args.statics.now c.loop-name.name-index c.loop-name.self
    (c.args.self.now ++ text_of_marks (flat_map static_line c.args.statics.now)) (omega arith) c.loop-name.invariant
