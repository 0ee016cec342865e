use Rattle.std.proofs.Common.{rules, ◌∙◌, ◌≡◌, true, false, [], ◌∷◌}
use Rattle.std.proofs.lemmas.Result.{err_from_is_err_and}
use Rattle.text_lexer.specs.declared.token.TokenKind.TheVariants as k
use Rattle.text_tree.specs.Forms.{Sign, first}
use Rattle.text_tree.specs.ExprGrammar.{map_step, steps}
use Rattle.text_tree.specs.Texts.{first_of}
use Rattle.text_grammar.specs.Reading.{read, starts}
use Rattle.text_syntax.proofs.Chained.{step_chain}
use Rattle.text_syntax.proofs.Chaining.{IsTaken, chained_begin, chain_last, chain_more, chain_other, chain_over, chain_stuck}
use Rattle.text_syntax.proofs.Folds.{made_made}
use Rattle.text_syntax.proofs.grammar.Grammar.steps.Goals as goal

pub loop-turn-init : goal.loop-turn-init
unfolding read steps
loop-turn-init g c =
    rw c.len-turn-end.ensures (made_made _ _ _ ∙ chained_begin (step_chain c.args.self.now.levels) c.args.of c.args.cursor.now)

pub returns-then-not-take : goal.returns-then-not-take
unfolding read
returns-then-not-take g c =
    let none : starts (Sign k.Dot ∷ []) c.loop-turn.cursor ≡ false = search rules in
    let same : c.take.new.self ≡ c.loop-turn.cursor = search rules in
    rw same (chain_other (step_chain c.args.self.now.levels) _ _ _ c.loop-turn.invariant none)

pub returns-then-not-begins_map : goal.returns-then-not-begins_map
returns-then-not-begins_map g c =
    let yes : c.take.result ≡ true = search rules in
    let begins : starts (Sign k.Dot ∷ []) c.loop-turn.cursor ≡ true = search rules in
    let found = c.take.ensures.taken yes in
    let taken : IsTaken (Sign k.Dot) c.loop-turn.cursor c.take.new.self = record { piece = found.0; begins = begins; one_is = found.1 } in
    let none : starts (first first_of map_step) c.take.new.self ≡ false = search rules in
    rw (chain_last (step_chain c.args.self.now.levels) _ _ _ _ c.loop-turn.invariant taken none) c.flat_step.ensures

pub returns-in_err-of : goal.returns-in_err-of
returns-in_err-of g c =
    let yes : c.take.result ≡ true = search rules in
    let begins : starts (Sign k.Dot ∷ []) c.loop-turn.cursor ≡ true = search rules in
    let found = c.take.ensures.taken yes in
    let taken : IsTaken (Sign k.Dot) c.loop-turn.cursor c.take.new.self = record { piece = found.0; begins = begins; one_is = found.1 } in
    let some : starts (first first_of map_step) c.take.new.self ≡ true = search rules in
    let p = err_from_is_err_and c.from_residual.result c.from_residual.ensures.1 in
    let was = rw c.in_err-of.was at c.map_step.ensures in
    rw p.1 (chain_stuck (step_chain c.args.self.now.levels) _ _ _ _ _ _ _ c.loop-turn-test.true c.loop-turn.invariant taken some (rw p.2 was))

pub loop-turn-preserved : goal.loop-turn-preserved
loop-turn-preserved g c =
    let yes : c.take.result ≡ true = search rules in
    let begins : starts (Sign k.Dot ∷ []) c.loop-turn.cursor ≡ true = search rules in
    let found = c.take.ensures.taken yes in
    let taken : IsTaken (Sign k.Dot) c.loop-turn.cursor c.take.new.self = record { piece = found.0; begins = begins; one_is = found.1 } in
    let some : starts (first first_of map_step) c.take.new.self ≡ true = search rules in
    chain_more (step_chain c.args.self.now.levels) _ _ _ _ _ _ _ c.loop-turn-test.true c.loop-turn.invariant taken some c.in_ok-of.ensures

pub returns : goal.returns
unfolding read
returns g c = chain_over (step_chain c.args.self.now.levels) _ _ _ _ _ _ c.loop-turn-test.false c.loop-turn.invariant c.last_step.ensures
