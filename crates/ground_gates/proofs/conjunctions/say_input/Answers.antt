use Rattle.std.proofs.Common.{List, ℕ, ap, sym, map, ◌∙◌, ◌++◌, ◌∷◌, []}
use Rattle.ground_gates.specs.Literals.{is_none, is_true, is_false}
use Rattle.ground_gates.specs.Said.{clauses_in}
use Rattle.ground_gates.proofs.Conjoined.{says_input, says_no_input}
use Rattle.ground_gates.proofs.PartLaws.{items_at}
use Rattle.ground_gates.proofs.conjunctions.say_input.Goals as goal

pub returns-in_ok-push_each : goal.returns-in_ok-push_each
returns-in_ok-push_each c = λ gates j.
    let lists : List (List ℕ) = map (λ xs. xs.items) c.args.source.inputs.now in
    let facts = c.as_slice-facts.ensures.value ∙ sym (items_at c.args.source.inputs.now c.args.literal.var c.index-source-literal.result c.requires.input) in
    says_input gates lists j c.args.board.now c.push_each.new.board c.args.whole c.args.literal c.requires.whole c.requires.placed c.if-literal.true c.in_ok-push_each.ensures.names
    (c.in_ok-push_each.ensures.clauses ∙ ap (λ xs. clauses_in c.args.board.now ++ map (λ x. is_none c.args.whole ++ is_true x ∷ []) xs) facts)

pub returns-in_ok-push_some : goal.returns-in_ok-push_some
returns-in_ok-push_some c = λ gates j.
    let lists : List (List ℕ) = map (λ xs. xs.items) c.args.source.inputs.now in
    let facts = c.as_slice-facts.ensures.value ∙ sym (items_at c.args.source.inputs.now c.args.literal.var c.index-source-literal.result c.requires.input) in
    says_no_input gates lists j c.args.board.now c.push_some.new.board c.args.whole c.args.literal c.requires.whole c.requires.placed c.if-literal.false c.in_ok-push_some.ensures.names
    (c.in_ok-push_some.ensures.clauses ∙ ap (λ xs. clauses_in c.args.board.now ++ (is_none c.args.whole ++ map is_false xs) ∷ []) facts)
