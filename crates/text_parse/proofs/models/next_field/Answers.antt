use Rattle.std.proofs.Common.{◌≡◌, ◌∙◌, sym, ap, rules, Some, List}
use Rattle.std.proofs.lemmas.Result.{err_from_is_err_and}
use Rattle.text_lexer.specs.declared.token.TokenKind.TheVariants as k
use Rattle.text_tree.specs.Forms.{Sign, Want, first, TooManyFields}
use Rattle.text_tree.specs.Grammar.{most_levels, field_form}
use Rattle.text_tree.specs.Texts.{first_of}
use Rattle.text_grammar.specs.Reading.{Got, Stuck, read, one}
use Rattle.text_syntax.specs.Reads.{cause_of, reading}
use Rattle.text_parse.specs.Items.{fields_from}
use Rattle.text_parse.proofs.Turns.{ended_other, ended_last, ended_over, ended_some, ended_stuck, one_sees, passed_stuck}
use Rattle.text_parse.proofs.models.next_field.Goals as goal

abbrev wants : List Want
wants = first first_of field_form

pub returns-in_err-pass : goal.returns-in_err-pass
unfolding fields_from field_form read
returns-in_err-pass c =
    let p = err_from_is_err_and c.from_residual.result c.from_residual.ensures.1 in
    rw p.1 (λ d e.
    let same : cause_of c.in_err-pass.field-0.0 ≡ Some d = cc (p.2, e) in
    ended_other TooManyFields (Sign k.Comma) wants (reading most_levels field_form) (one (Sign k.BraceClose)) c.args.left c.args.cursor.now (Stuck d c.pass.new.cursor)
    (sym c.sees.ensures ∙ c.if-not-sees.true) (c.in_err-pass.ensures d same))

pub returns-then-not-sees : goal.returns-then-not-sees
unfolding fields_from field_form read
returns-then-not-sees c =
    ended_other TooManyFields (Sign k.Comma) wants (reading most_levels field_form) (one (Sign k.BraceClose)) c.args.left c.args.cursor.now (Got tt c.pass.new.cursor)
    (sym c.sees.ensures ∙ c.if-not-sees.true) (search rules)

pub returns-in_err-pass-2 : goal.returns-in_err-pass-2
unfolding fields_from field_form read
returns-in_err-pass-2 c =
    let p = err_from_is_err_and c.from_residual-in_err-pass-2.result c.from_residual-in_err-pass-2.ensures.1 in
    rw p.1 (λ d e.
    let same : cause_of c.in_err-pass-2.field-0.0 ≡ Some d = cc (p.2, e) in
    absurd (one_sees (Sign k.Comma) c.args.cursor.now c.pass-2.new.cursor d (sym c.sees.ensures ∙ c.if-not-sees.false) (passed_stuck (one (Sign k.Comma) c.args.cursor.now) d c.pass-2.new.cursor (c.in_err-pass-2.ensures d same))))

pub returns-in_err-pass-3 : goal.returns-in_err-pass-3
unfolding fields_from field_form read
returns-in_err-pass-3 c =
    let p = err_from_is_err_and c.from_residual-in_err-pass-3.result c.from_residual-in_err-pass-3.ensures.1 in
    rw p.1 (λ d e.
    let same : cause_of c.in_err-pass-3.field-0.0 ≡ Some d = cc (p.2, e) in
    ended_last TooManyFields (Sign k.Comma) wants (reading most_levels field_form) (one (Sign k.BraceClose)) c.args.left c.args.cursor.now c.pass-2.new.cursor (Stuck d c.pass-then-not-sees_lower.new.cursor)
    (search rules) (sym c.sees_lower.ensures ∙ c.if-not-sees_lower.true) (c.in_err-pass-3.ensures d same))

pub returns-then-not-sees_lower : goal.returns-then-not-sees_lower
unfolding fields_from field_form read
returns-then-not-sees_lower c =
    ended_last TooManyFields (Sign k.Comma) wants (reading most_levels field_form) (one (Sign k.BraceClose)) c.args.left c.args.cursor.now c.pass-2.new.cursor (Got tt c.pass-then-not-sees_lower.new.cursor)
    (search rules) (sym c.sees_lower.ensures ∙ c.if-not-sees_lower.true) (search rules)

pub returns-then-left-eq0 : goal.returns-then-left-eq0
unfolding fields_from field_form read
returns-then-left-eq0 c = λ d e.
    let same : TooManyFields ≡ d = cc in
    ended_over TooManyFields (Sign k.Comma) wants (reading most_levels field_form) (one (Sign k.BraceClose)) c.args.left c.args.cursor.now c.pass-2.new.cursor
    (search rules) (sym c.sees_lower.ensures ∙ c.if-not-sees_lower.false) c.if-left-eq0.true ∙ ap (λ z. Stuck z c.pass-2.new.cursor) same

pub returns-in_err-field : goal.returns-in_err-field
unfolding fields_from field_form read
returns-in_err-field c =
    let p = err_from_is_err_and c.from_residual-in_err-field.result c.from_residual-in_err-field.ensures.1 in
    rw p.1 (λ d e.
    let same : cause_of c.in_err-field.field-0.0 ≡ Some d = cc (p.2, e) in
    ended_stuck TooManyFields (Sign k.Comma) wants (reading most_levels field_form) (one (Sign k.BraceClose)) c.args.left c.args.cursor.now c.pass-2.new.cursor c.field.new.cursor d
    (search rules) (sym c.sees_lower.ensures ∙ c.if-not-sees_lower.false) c.if-left-eq0.false (c.in_err-field.ensures d same))

pub returns : goal.returns
unfolding fields_from field_form read
returns c =
    ended_some TooManyFields (Sign k.Comma) wants (reading most_levels field_form) (one (Sign k.BraceClose)) c.args.left c.args.cursor.now c.pass-2.new.cursor c.field.new.cursor _
    (search rules) (sym c.sees_lower.ensures ∙ c.if-not-sees_lower.false) c.if-left-eq0.false (search rules)
