use Rattle.std.proofs.Common.{rules, ◌≡◌, true, false}
use Rattle.std.proofs.lemmas.Result.{err_from_is_err_and}
use Rattle.text_tree.specs.Forms.{first}
use Rattle.text_tree.specs.ExprGrammar.{set_step}
use Rattle.text_tree.specs.Texts.{first_of}
use Rattle.text_grammar.specs.Reading.{read, starts}
use Rattle.text_syntax.proofs.Folds.{folded_begin, turn_none, turn_more, turn_stuck, turns_over}
use Rattle.text_syntax.proofs.grammar.Grammar.set_steps.Goals as goal

pub loop-turn-init : goal.loop-turn-init
unfolding read
loop-turn-init g c = rw c.len-turn-end.ensures (folded_begin _ _ _ _ _)

pub returns-then-not-begins_step : goal.returns-then-not-begins_step
returns-then-not-begins_step g c =
    let none : starts (first first_of set_step) c.loop-turn.cursor ≡ false = search rules in
    turn_none _ _ _ _ _ _ c.loop-turn.invariant none

pub returns-in_err-of : goal.returns-in_err-of
returns-in_err-of g c =
    let some : starts (first first_of set_step) c.loop-turn.cursor ≡ true = search rules in
    let p = err_from_is_err_and c.from_residual.result c.from_residual.ensures.1 in
    let was = rw c.in_err-of.was at c.set_step.ensures in
    rw p.1 (turn_stuck _ _ _ _ _ _ _ _ _ c.loop-turn-test.true c.loop-turn.invariant some (rw p.2 was))

pub loop-turn-preserved : goal.loop-turn-preserved
loop-turn-preserved g c =
    let some : starts (first first_of set_step) c.loop-turn.cursor ≡ true = search rules in
    turn_more _ _ _ _ _ _ _ _ _ c.loop-turn-test.true c.loop-turn.invariant some c.in_ok-of.ensures

pub returns : goal.returns
returns g c = turns_over _ _ _ _ _ _ _ _ _ c.loop-turn-test.false c.loop-turn.invariant c.unless_step.ensures
