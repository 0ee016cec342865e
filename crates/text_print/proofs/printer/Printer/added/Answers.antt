use Rattle.std.proofs.Common.{◌∙◌, ◌++◌, codes, ap}
use Rattle.text_print.specs.Marks.{text_of_marks}
use Rattle.text_print.specs.Models.{spelled_field}
use Rattle.text_print.specs.Commands.{added, spelled_init}
use Rattle.text_print.proofs.Parts.{added_text, grown5}
use Rattle.text_print.proofs.printer.Printer.added.Goals as goal

pub returns : goal.returns
returns c =
    grown5 c.args.self.now c.field.new.self c.put.new.self c.put-2.new.self c.put-3.new.self c.init.new.self (text_of_marks (spelled_field c.args.field.now)) (codes ", ") (c.args.x.now.name) (codes " -> ") (text_of_marks (spelled_init c.args.init.now)) (text_of_marks (added c.args.field.now c.args.x.now c.args.init.now)) c.in_ok-field.ensures c.in_ok-put.ensures (c.in_ok-put-2.ensures ∙ ap (λ z. c.put.new.self ++ z) c.bytes.ensures.bytes) c.in_ok-put-3.ensures c.in_ok-init.ensures (added_text c.args.field.now c.args.x.now c.args.init.now)
