use Rattle.std.proofs.Common.{◌∷◌, [], codes}
use Rattle.text_print.specs.Marks.{text_of_marks}
use Rattle.text_print.specs.Models.{field_line, spelled_field}
use Rattle.text_print.proofs.Parts.{entry_line_text, grown3}
use Rattle.text_print.proofs.printer.Printer.field_line.Goals as goal

pub returns : goal.returns
returns c =
    grown3 c.args.self.now c.put.new.self c.field.new.self c.put-2.new.self (codes "  ") (text_of_marks (spelled_field c.args.field.now)) (44 ∷ 10 ∷ []) (text_of_marks (field_line c.args.field.now)) c.in_ok-put.ensures c.in_ok-field.ensures c.in_ok-put-2.ensures (entry_line_text (spelled_field c.args.field.now))
