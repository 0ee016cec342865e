use Rattle.std.proofs.Common.{◌≡◌, ◌∙◌, sym, ap, rules, Some}
use Rattle.std.proofs.lemmas.Result.{err_from_is_err_and}
use Rattle.text_tree.specs.Forms.{first, TooManyStatics}
use Rattle.text_tree.specs.Grammar.{most_levels, static_form}
use Rattle.text_tree.specs.Texts.{first_of}
use Rattle.text_grammar.specs.Reading.{Stuck}
use Rattle.text_syntax.specs.Reads.{cause_of, reading}
use Rattle.text_parse.specs.Items.{statics_from}
use Rattle.text_parse.proofs.Turns.{each_none, each_over, each_some, each_stuck}
use Rattle.text_parse.proofs.models.next_static.Goals as goal

pub returns-then-not-sees_word : goal.returns-then-not-sees_word
unfolding statics_from static_form
returns-then-not-sees_word c =
    each_none TooManyStatics (first first_of static_form) (reading most_levels static_form) c.args.left c.args.cursor.now (sym c.sees_word.ensures ∙ c.if-not-sees_word.true)

pub returns-then-left-eq0 : goal.returns-then-left-eq0
unfolding statics_from static_form
returns-then-left-eq0 c = λ d e.
    let same : TooManyStatics ≡ d = cc in
    each_over TooManyStatics (first first_of static_form) (reading most_levels static_form) c.args.left c.args.cursor.now (sym c.sees_word.ensures ∙ c.if-not-sees_word.false) c.if-left-eq0.true
    ∙ ap (λ z. Stuck z c.args.cursor.now) same

pub returns-in_err-static_name : goal.returns-in_err-static_name
unfolding statics_from static_form
returns-in_err-static_name c =
    let p = err_from_is_err_and c.from_residual.result c.from_residual.ensures.1 in
    rw p.1 (λ d e.
    let same : cause_of c.in_err-static_name.field-0.0 ≡ Some d = cc (p.2, e) in
    each_stuck TooManyStatics (first first_of static_form) (reading most_levels static_form) c.args.left c.args.cursor.now c.static_name.new.cursor d (sym c.sees_word.ensures ∙ c.if-not-sees_word.false) c.if-left-eq0.false
    (c.in_err-static_name.ensures d same))

pub returns : goal.returns
unfolding statics_from static_form
returns c =
    each_some TooManyStatics (first first_of static_form) (reading most_levels static_form) c.args.left c.args.cursor.now c.static_name.new.cursor _ (sym c.sees_word.ensures ∙ c.if-not-sees_word.false) c.if-left-eq0.false
    (search rules)
