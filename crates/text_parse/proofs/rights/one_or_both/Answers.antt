use Rattle.std.proofs.Common.{◌∙◌, sym}
use Rattle.text_parse.specs.Parts.{first_and_more, second_alone}
use Rattle.text_parse.proofs.Steps.{either_first, either_second, reads_same}
use Rattle.text_parse.proofs.rights.one_or_both.Goals as goal

pub returns-then-sees_word : goal.returns-then-sees_word
returns-then-sees_word c =
    reads_same _ _ c.first_and_more.result c.first_and_more.new.cursor
    (either_first (first_and_more c.args.one.now c.args.two.now) (second_alone c.args.two.now) c.args.cursor.now (sym c.sees_word.ensures ∙ c.if-sees_word.true)) c.first_and_more.ensures

pub returns : goal.returns
returns c =
    reads_same _ _ c.second_alone.result c.second_alone.new.cursor
    (either_second (first_and_more c.args.one.now c.args.two.now) (second_alone c.args.two.now) c.args.cursor.now (sym c.sees_word.ensures ∙ c.if-sees_word.false)) c.second_alone.ensures
