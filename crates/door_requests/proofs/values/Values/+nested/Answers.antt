use Rattle.std.proofs.Common.{rules, ◌≡◌, true, false, [], ◌∷◌, arith}
use Rattle.std.proofs.lemmas.Result.{err_from_is_err_and}
use Rattle.text_lexer.specs.declared.token.TokenKind.TheVariants as k
use Rattle.text_tree.specs.Forms.{Sign}
use Rattle.text_grammar.specs.Reading.{read, starts}
use Rattle.text_syntax.proofs.Folds.{folded_begin, turn_none, turn_more, turn_stuck, turns_over}
use Rattle.door_requests.proofs.Nesting.{value_deeper, value_none}
use Rattle.door_requests.proofs.values.Values.+nested.Goals as goal

pub more_values-loop-turn-init : goal.more_values-loop-turn-init
unfolding read
more_values-loop-turn-init t c = rw c.len-turn-end.ensures (folded_begin _ _ _ _ _)

pub more_values-returns-then-not-sees : goal.more_values-returns-then-not-sees
more_values-returns-then-not-sees t c =
    let none : starts (Sign k.Comma ∷ []) c.loop-turn.cursor ≡ false = search rules in
    turn_none _ _ _ _ _ _ c.loop-turn.invariant none

pub more_values-returns-in_err-found : goal.more_values-returns-in_err-found
more_values-returns-in_err-found t c =
    let some : starts (Sign k.Comma ∷ []) c.loop-turn.cursor ≡ true = search rules in
    let p = err_from_is_err_and c.from_residual.result c.from_residual.ensures.1 in
    let was = rw c.in_err-found.was at c.more_value.ensures in
    rw p.1 (turn_stuck _ _ _ _ _ _ _ _ _ c.loop-turn-test.true c.loop-turn.invariant some (rw p.2 was))

pub more_values-loop-turn-preserved : goal.more_values-loop-turn-preserved
more_values-loop-turn-preserved t c =
    let some : starts (Sign k.Comma ∷ []) c.loop-turn.cursor ≡ true = search rules in
    turn_more _ _ _ _ _ _ _ _ _ c.loop-turn-test.true c.loop-turn.invariant some c.in_ok-found.ensures

pub more_values-returns : goal.more_values-returns
more_values-returns t c = turns_over _ _ _ _ _ _ _ _ _ c.loop-turn-test.false c.loop-turn.invariant c.unless.ensures

pub value-returns-then-self-eq0 : goal.value-returns-then-self-eq0
value-returns-then-self-eq0 t c = value_none c.args.self.now.place c.args.self.now.levels c.args.cursor.now _ (omega arith) c.value_stop.ensures

pub value-returns : goal.value-returns
value-returns t c = rw (value_deeper c.args.self.now.place c.args.self.now.levels c.args.cursor.now (omega arith)) c.any.ensures
