use Rattle.std.proofs.Common.{[], ◌∷◌, ◌++◌, arith, map, refl}
use Rattle.text_lexer.specs.declared.token.TokenKind.TheVariants.{Comma}
use Rattle.text_print.specs.Exprs.{joined}
use Rattle.text_print.specs.Marks.{sign, sp, text_of_marks}
use Rattle.text_print.specs.Models.{spelled_field}
use Rattle.text_print.proofs.Loops.{commas_step, commas_done}
use Rattle.text_print.proofs.printer.Printer.more_fields.Goals as goal

pub loop-field-init : goal.loop-field-init
loop-field-init c = record { marks = sign Comma ∷ sp ∷ []; before_is = refl; goes_on = refl }

pub loop-field-preserved : goal.loop-field-preserved
loop-field-preserved c =
    rw (c.in_ok-field.ensures, c.in_ok-put.ensures)
    (commas_step spelled_field c.args.fields.now c.loop-field.field-index c.field-item.result (text_of_marks (sign Comma ∷ sp ∷ [])) c.loop-field.self
    (c.args.self.now ++ text_of_marks (joined (sign Comma ∷ sp ∷ []) (map spelled_field c.args.fields.now))) (omega arith) c.field-item.is
    c.loop-field.invariant)

pub returns : goal.returns
returns c =
    commas_done spelled_field c.args.fields.now c.loop-field.field-index (text_of_marks (sign Comma ∷ sp ∷ [])) c.loop-field.self
    (c.args.self.now ++ text_of_marks (joined (sign Comma ∷ sp ∷ []) (map spelled_field c.args.fields.now))) (omega arith) c.loop-field.invariant
