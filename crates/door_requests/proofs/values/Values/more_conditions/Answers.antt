use Rattle.std.proofs.Common.{rules, ◌≡◌, true, false, [], ◌∷◌}
use Rattle.std.proofs.lemmas.Result.{err_from_is_err_and}
use Rattle.text_lexer.specs.declared.token.TokenKind.TheVariants as k
use Rattle.text_tree.specs.Forms.{Sign}
use Rattle.text_grammar.specs.Reading.{read, starts}
use Rattle.text_syntax.proofs.Folds.{folded_begin, turn_none, turn_more, turn_stuck, turns_over}
use Rattle.door_requests.proofs.values.Values.more_conditions.Goals as goal

pub loop-turn-init : goal.loop-turn-init
unfolding read
loop-turn-init c = rw c.len-turn-end.ensures (folded_begin _ _ _ _ _)

pub returns-then-not-sees : goal.returns-then-not-sees
returns-then-not-sees c =
    let none : starts (Sign k.Comma ∷ []) c.loop-turn.cursor ≡ false = search rules in
    turn_none _ _ _ _ _ _ c.loop-turn.invariant none

pub returns-in_err-found : goal.returns-in_err-found
returns-in_err-found c =
    let some : starts (Sign k.Comma ∷ []) c.loop-turn.cursor ≡ true = search rules in
    let p = err_from_is_err_and c.from_residual.result c.from_residual.ensures.1 in
    let was = rw c.in_err-found.was at c.more_condition.ensures in
    rw p.1 (turn_stuck _ _ _ _ _ _ _ _ _ c.loop-turn-test.true c.loop-turn.invariant some (rw p.2 was))

pub loop-turn-preserved : goal.loop-turn-preserved
loop-turn-preserved c =
    let some : starts (Sign k.Comma ∷ []) c.loop-turn.cursor ≡ true = search rules in
    turn_more _ _ _ _ _ _ _ _ _ c.loop-turn-test.true c.loop-turn.invariant some c.in_ok-found.ensures

pub returns : goal.returns
returns c = turns_over _ _ _ _ _ _ _ _ _ c.loop-turn-test.false c.loop-turn.invariant c.unless.ensures
