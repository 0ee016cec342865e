use Rattle.std.proofs.Common.{◌∙◌, ◌++◌, ◌∷◌, [], codes, ap}
use Rattle.std.specs.List.{flat_map}
use Rattle.text_print.specs.Marks.{text_of_marks}
use Rattle.text_print.specs.Models.{entry_line, field_line, model_head, model_lines, right}
use Rattle.text_print.proofs.Parts.{grown6, model_lines_text}
use Rattle.text_print.proofs.printer.Printer.model_lines.Goals as goal

pub returns : goal.returns
returns c =
    grown6 c.args.self.now c.model_head.new.self c.put.new.self c.right_line.new.self c.right_line-2.new.self c.field_lines.new.self c.put-2.new.self (text_of_marks (model_head c.args.model.now)) (123 ∷ 10 ∷ []) (text_of_marks (entry_line (right (codes "create") c.args.model.now.create))) (text_of_marks (entry_line (right (codes "delete") c.args.model.now.delete))) (text_of_marks (flat_map field_line c.args.model.now.fields)) (125 ∷ 10 ∷ []) (text_of_marks (model_lines c.args.model.now)) c.in_ok-model_head.ensures c.in_ok-put.ensures c.in_ok-right_line.ensures c.in_ok-right_line-2.ensures (c.in_ok-field_lines.ensures ∙ ap (λ z. c.right_line-2.new.self ++ text_of_marks (flat_map field_line z)) c.as_slice.ensures) c.in_ok-put-2.ensures (model_lines_text c.args.model.now)
