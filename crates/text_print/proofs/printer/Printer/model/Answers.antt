use Rattle.std.proofs.Common.{◌∙◌, ◌++◌, ◌∷◌, [], codes, map, ap}
use Rattle.text_lexer.specs.declared.token.TokenKind.TheVariants.{Comma}
use Rattle.text_print.specs.Exprs.{joined}
use Rattle.text_print.specs.Marks.{sign, sp, text_of_marks}
use Rattle.text_print.specs.Models.{model_head, right, spelled_field, spelled_model}
use Rattle.text_print.proofs.Parts.{grown7, model_text}
use Rattle.text_print.proofs.printer.Printer.model.Goals as goal

pub returns : goal.returns
returns c =
    grown7 c.args.self.now c.model_head.new.self c.put.new.self c.right.new.self c.put-2.new.self c.right-2.new.self c.more_fields.new.self c.put-3.new.self (text_of_marks (model_head c.args.model.now)) (codes "{") (text_of_marks (right (codes "create") c.args.model.now.create)) (codes ", ") (text_of_marks (right (codes "delete") c.args.model.now.delete)) (text_of_marks (joined (sign Comma ∷ sp ∷ []) (map spelled_field c.args.model.now.fields))) (codes "}") (text_of_marks (spelled_model c.args.model.now)) c.in_ok-model_head.ensures c.in_ok-put.ensures c.in_ok-right.ensures c.in_ok-put-2.ensures c.in_ok-right-2.ensures (c.in_ok-more_fields.ensures ∙ ap (λ z. c.right-2.new.self ++ text_of_marks (joined (sign Comma ∷ sp ∷ []) (map spelled_field z))) c.as_slice.ensures) c.in_ok-put-3.ensures (model_text c.args.model.now)
