use Rattle.std.proofs.Common.{List, ℕ, ◌++◌, ◌∷◌, [], ◌∙◌, ap, arith, sym, subst, map}
use Rattle.ground_gates.specs.Literals.{is_false, is_true}
use Rattle.ground_gates.specs.Said.{clauses_in}
use Rattle.ground_gates.specs.Names.{NamesView, IsInputAdded}
use Rattle.ground_gates.proofs.InputLaws.{has_input, had_input}
use Rattle.ground_gates.proofs.Disjoined.{length-lists}
use Rattle.ground_gates.proofs.PartLaws.{items_at}
use Rattle.ground_gates.proofs.inputs.name_input.Goals as goal

pub returns-in-Some : goal.returns-in-Some
returns-in-Some c = λ gates j. had_input gates (map (λ xs. xs.items) c.args.source.inputs.now) j c.args.input c.in-Some.variable c.args.board.now c.in-Some.ensures

pub returns : goal.returns
returns c = λ gates j.
    let lists : List (List ℕ) = map (λ xs. xs.items) c.args.source.inputs.now in
    let x = c.in_ok-variable.variable in
    let facts = c.as_slice.ensures.value ∙ sym (items_at c.args.source.inputs.now c.args.input c.index-source-input.result c.requires.input) in
    let N : NamesView → Type 0 = λ names. IsInputAdded c.args.input c.args.board.now.names names x in
    has_input gates lists j c.args.input x c.args.board.now c.push_facts.new.board (subst N (sym c.in_ok-push_facts.ensures.names) c.in_ok-variable.ensures)
    (c.in_ok-push_facts.ensures.clauses ∙ ap (λ xs. clauses_in c.args.board.now ++ map (λ y. is_false x ∷ is_true y ∷ []) xs) facts) c.requires.placed

pub add_input-requires-clause-placed : goal.add_input-requires-clause-placed
add_input-requires-clause-placed c = omega (arith, c.requires.input, c.requires.placed.places, length-lists c.args.source.inputs.now)
