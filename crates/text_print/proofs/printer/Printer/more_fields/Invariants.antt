-- What is left to write, after what is written.
use Rattle.std.proofs.Common.{[], ◌∷◌, ◌++◌, drop, map}
use Rattle.text_lexer.specs.declared.token.TokenKind.TheVariants.{Comma}
use Rattle.text_print.specs.Exprs.{joined}
use Rattle.text_print.specs.Marks.{sign, sp, text_of_marks}
use Rattle.text_print.specs.Models.{spelled_field}
use Rattle.text_print.proofs.Loops.{IsWriting}
use Rattle.text_print.proofs.printer.Printer.more_fields.Given as goal

abbrev pub invariant-loop-field : goal.invariant-loop-field
invariant-loop-field l =
    IsWriting spelled_field (drop l.field-index l.fields) (text_of_marks (sign Comma ∷ sp ∷ [])) l.self
    (l.fn.self ++ text_of_marks (joined (sign Comma ∷ sp ∷ []) (map spelled_field l.fn.fields)))
