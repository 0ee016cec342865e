use Rattle.std.proofs.Common.{codes}
use Rattle.text_print.specs.Marks.{text_of_marks}
use Rattle.text_print.specs.Models.{right, rights_of_field}
use Rattle.text_print.proofs.Parts.{grown5, rights_of_field_text}
use Rattle.text_print.proofs.printer.Printer.rights_of_field.Goals as goal

pub returns : goal.returns
returns c =
    grown5 c.args.self.now c.put.new.self c.right.new.self c.put-2.new.self c.right-2.new.self c.put-3.new.self (codes "{") (text_of_marks (right (codes "read") c.args.field.now.read)) (codes ", ") (text_of_marks (right (codes "write") c.args.field.now.write)) (codes "}") (text_of_marks (rights_of_field c.args.field.now)) c.in_ok-put.ensures c.in_ok-right.ensures c.in_ok-put-2.ensures c.in_ok-right-2.ensures c.in_ok-put-3.ensures (rights_of_field_text c.args.field.now)
