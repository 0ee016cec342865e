use Rattle.std.proofs.Common.{◌++◌, arith}
use Rattle.std.specs.List.{flat_map}
use Rattle.text_print.specs.Marks.{text_of_marks}
use Rattle.text_print.specs.Models.{field_line}
use Rattle.text_print.proofs.Loops.{marks_begin, marks_step, marks_done}
use Rattle.text_print.proofs.printer.Printer.field_lines.Goals as goal

pub loop-field-init : goal.loop-field-init
loop-field-init c = marks_begin field_line c.args.fields.now c.args.self.now

pub loop-field-preserved : goal.loop-field-preserved
loop-field-preserved c =
    rw (c.in_ok-field_line.ensures)
    (marks_step field_line c.args.fields.now c.loop-field.field-index c.field-item.result c.loop-field.self
    (c.args.self.now ++ text_of_marks (flat_map field_line c.args.fields.now)) (omega arith) c.field-item.is c.loop-field.invariant)

pub returns : goal.returns
returns c =
    marks_done field_line c.args.fields.now c.loop-field.field-index c.loop-field.self
    (c.args.self.now ++ text_of_marks (flat_map field_line c.args.fields.now)) (omega arith) c.loop-field.invariant
