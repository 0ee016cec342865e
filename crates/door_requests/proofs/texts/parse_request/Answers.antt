use Rattle.std.proofs.Common.{◌≡◌, sym, ap, subst, length, arith}
use Rattle.std.proofs.lemmas.Result.{err_from_is_err_and}
use Rattle.door_requests.specs.Grammar.{line_form}
use Rattle.door_requests.proofs.GrammarAnswers.{line_answer}
use Rattle.text_syntax.specs.Pieces.{AreTokensIn}
use Rattle.text_parse.proofs.JudgedTexts.{few_tokens}
use Rattle.door_requests.proofs.JudgedTexts.{ok_of, only_of, refused_of, none_of, lexed_refused, lexed_none}
use Rattle.door_requests.proofs.texts.parse_request.Goals as goal

pub line_of-requires-clause-tokens : goal.line_of-requires-clause-tokens
line_of-requires-clause-tokens c =
    subst (AreTokensIn c.args.text.now) (sym c.as_slice.ensures.value)
    (record { utf8 = c.in_ok-tokens.ensures.ok.0; within = c.in_ok-tokens.ensures.in_text; lexemes = c.in_ok-tokens.ensures.lexemes })

pub line_of-requires-clause-few : goal.line_of-requires-clause-few
line_of-requires-clause-few c =
    let le = few_tokens c.args.text.now c.in_ok-tokens.tokens.items c.in_ok-tokens.ensures.ok c.in_ok-tokens.ensures.in_text in
    let same : length c.as_slice.result.now ≡ length c.in_ok-tokens.tokens.items = ap length c.as_slice.ensures.value in
    omega (arith, le, same, c.requires)

pub returns-clause-ok : goal.returns-clause-ok
returns-clause-ok c = ok_of line_form line_answer c.args.text.now c.in_ok-tokens.tokens.items c.as_slice.result.now c.as_slice.ensures.value c.in_ok-tokens.ensures.ok _ c.line_of.ensures

pub returns-clause-only : goal.returns-clause-only
returns-clause-only c = only_of line_form line_answer c.args.text.now c.in_ok-tokens.tokens.items c.as_slice.result.now c.as_slice.ensures.value c.in_ok-tokens.ensures.ok _ c.line_of.ensures

pub returns-clause-refused : goal.returns-clause-refused
returns-clause-refused c = refused_of line_form line_answer c.args.text.now c.in_ok-tokens.tokens.items c.as_slice.result.now c.as_slice.ensures.value c.in_ok-tokens.ensures.ok _ c.line_of.ensures

pub returns-clause-none : goal.returns-clause-none
returns-clause-none c = none_of line_form line_answer c.args.text.now c.in_ok-tokens.tokens.items c.as_slice.result.now c.as_slice.ensures.value c.in_ok-tokens.ensures.ok _ c.line_of.ensures

pub returns-in_err-tokens-clause-refused : goal.returns-in_err-tokens-clause-refused
returns-in_err-tokens-clause-refused c =
    let p = err_from_is_err_and c.from_residual.result c.from_residual.ensures.1 in
    rw p.1 (lexed_refused line_form c.args.text.now c.in_err-tokens.field-0.0 p.0 c.in_err-tokens.ensures.refused p.2)

pub returns-in_err-tokens-clause-none : goal.returns-in_err-tokens-clause-none
returns-in_err-tokens-clause-none c =
    let p = err_from_is_err_and c.from_residual.result c.from_residual.ensures.1 in
    rw p.1 (lexed_none line_form line_answer c.args.text.now c.in_err-tokens.field-0.0 p.0 c.in_err-tokens.ensures.refused p.2)
