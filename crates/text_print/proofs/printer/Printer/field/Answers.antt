use Rattle.std.proofs.Common.{◌∙◌, ◌++◌, codes, ap}
use Rattle.text_print.specs.Marks.{text_of_marks}
use Rattle.text_print.specs.Models.{rights_of_field, spelled_field, spelled_type}
use Rattle.text_print.proofs.Parts.{field_text, grown5}
use Rattle.text_print.proofs.printer.Printer.field.Goals as goal

pub returns : goal.returns
returns c =
    grown5 c.args.self.now c.put.new.self c.put-2.new.self c.ty.new.self c.put-3.new.self c.rights_of_field.new.self (c.args.field.now.name.name) (codes ": ") (text_of_marks (spelled_type c.args.field.now.ty)) (codes " ") (text_of_marks (rights_of_field c.args.field.now)) (text_of_marks (spelled_field c.args.field.now)) (c.in_ok-put.ensures ∙ ap (λ z. c.args.self.now ++ z) c.bytes.ensures.bytes) c.in_ok-put-2.ensures c.in_ok-ty.ensures c.in_ok-put-3.ensures c.in_ok-rights_of_field.ensures (field_text c.args.field.now)
