use Rattle.std.proofs.Common.{◌≡◌, ◌∙◌, sym, ap, rules, Some}
use Rattle.std.proofs.lemmas.Result.{err_from_is_err_and}
use Rattle.text_tree.specs.Forms.{first, TooManyModels}
use Rattle.text_tree.specs.Grammar.{most_levels, model_form}
use Rattle.text_tree.specs.Texts.{first_of}
use Rattle.text_grammar.specs.Reading.{Stuck}
use Rattle.text_syntax.specs.Reads.{cause_of, reading}
use Rattle.text_parse.specs.Items.{models_from}
use Rattle.text_parse.proofs.Turns.{each_none, each_over, each_some, each_stuck}
use Rattle.text_parse.proofs.models.next_model.Goals as goal

pub returns-then-not-sees_model : goal.returns-then-not-sees_model
unfolding models_from
returns-then-not-sees_model c =
    each_none TooManyModels (first first_of model_form) (reading most_levels model_form) c.args.left c.args.cursor.now (sym c.sees_model.ensures ∙ c.if-not-sees_model.true)

pub returns-then-left-eq0 : goal.returns-then-left-eq0
unfolding models_from
returns-then-left-eq0 c = λ d e.
    let same : TooManyModels ≡ d = cc in
    each_over TooManyModels (first first_of model_form) (reading most_levels model_form) c.args.left c.args.cursor.now (sym c.sees_model.ensures ∙ c.if-not-sees_model.false) c.if-left-eq0.true
    ∙ ap (λ z. Stuck z c.args.cursor.now) same

pub returns-in_err-model : goal.returns-in_err-model
unfolding models_from
returns-in_err-model c =
    let p = err_from_is_err_and c.from_residual.result c.from_residual.ensures.1 in
    rw p.1 (λ d e.
    let same : cause_of c.in_err-model.field-0.0 ≡ Some d = cc (p.2, e) in
    each_stuck TooManyModels (first first_of model_form) (reading most_levels model_form) c.args.left c.args.cursor.now c.model.new.cursor d (sym c.sees_model.ensures ∙ c.if-not-sees_model.false) c.if-left-eq0.false
    (c.in_err-model.ensures d same))

pub returns : goal.returns
unfolding models_from
returns c =
    each_some TooManyModels (first first_of model_form) (reading most_levels model_form) c.args.left c.args.cursor.now c.model.new.cursor _ (sym c.sees_model.ensures ∙ c.if-not-sees_model.false) c.if-left-eq0.false
    (search rules)
