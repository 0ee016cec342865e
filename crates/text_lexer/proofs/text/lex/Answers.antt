use Rattle.std.proofs.Common.{rules}
use Rattle.std.proofs.lemmas.List.{take_rest}
use Rattle.text_lexer.specs.Refused.{Refuses}
use Rattle.text_lexer.proofs.OneAnswer.{IsReading, begin_reading, read_on, reading_refused}
use Rattle.text_lexer.proofs.TokenLists.{each_lexeme, one_list, read_all, tokens_in, tokens_ordered}
use Rattle.text_lexer.proofs.text.lex.Goals as goal

pub loop-at-init : goal.loop-at-init
loop-at-init c = rw (c.new-tokens.ensures.items, c.gap_end-at.ensures.value) (begin_reading c.args.text.now)

pub loop-at-preserved : goal.loop-at-preserved
loop-at-preserved c =
    let text = c.args.text.now in
    let tokens = c.loop-at.tokens.items in
    let t = c.in_ok-token.token in
    let found = c.in_ok-token.ensures.ok in
    let reading : IsReading text tokens t.at = rw (← found.0) at c.loop-at.invariant in
    rw (c.in_ok-push.ensures.items, c.gap_end.ensures.value, take_rest text t.end) (read_on text tokens t reading found.1)

pub returns-in_err-token-clause-refused : goal.returns-in_err-token-clause-refused
returns-in_err-token-clause-refused c =
    let text = c.args.text.now in
    let err = c.in_err-token.field-0.0 in
    let refused : Refuses text err = reading_refused text c.loop-at.tokens.items c.loop-at.at err c.in_ok-check_utf8.ensures.ok c.loop-at.invariant c.loop-at-test.true c.in_err-token.ensures.value in
    search (rules, refused)

pub returns-clause-ok : goal.returns-clause-ok
returns-clause-ok c =
    (c.in_ok-check_utf8.ensures.ok, read_all c.args.text.now c.loop-at.tokens.items c.loop-at.at c.loop-at.invariant.read c.loop-at-test.false)

pub returns-clause-in_text : goal.returns-clause-in_text
returns-clause-in_text c =
    tokens_in c.args.text.now c.loop-at.tokens.items (c.in_ok-check_utf8.ensures.ok, read_all c.args.text.now c.loop-at.tokens.items c.loop-at.at c.loop-at.invariant.read c.loop-at-test.false)

pub returns-clause-in_order : goal.returns-clause-in_order
returns-clause-in_order c =
    tokens_ordered c.args.text.now c.loop-at.tokens.items (c.in_ok-check_utf8.ensures.ok, read_all c.args.text.now c.loop-at.tokens.items c.loop-at.at c.loop-at.invariant.read c.loop-at-test.false)

pub returns-clause-only : goal.returns-clause-only
returns-clause-only c = λ others lexed.
    one_list c.args.text.now others c.loop-at.tokens.items lexed
    (c.in_ok-check_utf8.ensures.ok, read_all c.args.text.now c.loop-at.tokens.items c.loop-at.at c.loop-at.invariant.read c.loop-at-test.false)

pub returns-clause-lexemes : goal.returns-clause-lexemes
returns-clause-lexemes c =
    each_lexeme c.args.text.now c.loop-at.tokens.items (c.in_ok-check_utf8.ensures.ok, read_all c.args.text.now c.loop-at.tokens.items c.loop-at.at c.loop-at.invariant.read c.loop-at-test.false)
