use Rattle.std.proofs.Common.{◌∙◌, sym, [], ◌∷◌}
use Rattle.std.specs.Prelude.{codes}
use Rattle.text_lexer.specs.declared.token.TokenKind.TheVariants as k
use Rattle.text_tree.specs.Forms.{Want, Word}
use Rattle.text_tree.specs.Grammar.{model_form, model_head}
use Rattle.text_parse.proofs.Turns.{starts_at, starts_past}
use Rattle.text_parse.proofs.models.sees_model.Goals as goal

abbrev w1 : Want
w1 = Word k.Lower (codes "principal")

abbrev w2 : Want
w2 = Word k.Lower (codes "model")

pub returns-then-sees_word : goal.returns-then-sees_word
unfolding model_form model_head
returns-then-sees_word c = sym (starts_at [] w1 (w2 ∷ []) c.args.cursor.now (sym c.sees_word.ensures ∙ c.if-sees_word.true))

pub returns : goal.returns
unfolding model_form model_head
returns c =
    starts_past w1 (w2 ∷ []) c.args.cursor.now c.sees_word-2.result (sym c.sees_word.ensures ∙ c.if-sees_word.false)
    (c.sees_word-2.ensures)
