use Rattle.std.proofs.Common.{◌<◌, ℕ, List, true, refl, map, ap, arith, subst, sym, ◌∙◌, ◌++◌, ◌∷◌, [], Contains, get_or, slice_index_or}
use Rattle.std.proofs.lemmas.List.Elements.{All-contains, Contains-get_or}
use Rattle.ground_gates.specs.declared.names.Owner.TheVariants.{Input}
use Rattle.ground_gates.specs.Names.{end_of}
use Rattle.ground_gates.proofs.VarsBelow.{facts_at}
use Rattle.ground_gates.specs.declared.parts.Parts.{Parts}
use Rattle.ground_gates.proofs.Disjoined.{literals_named, literals_one, no_other, one_other, named_input, open_as, none_of, one_of}
use Rattle.ground_gates.proofs.PartLaws.{items_at}
use Rattle.ground_gates.proofs.disjunctions.settle.Goals as goal

pub returns-in-empty-clause-goes : goal.returns-in-empty-clause-goes
returns-in-empty-clause-goes c = λ gates j.
    let t = c.args.source in
    let lists : List (List ℕ) = map (λ xs. xs.items) t.inputs.now in
    let facts = c.as_slice-facts.ensures.value ∙ sym (items_at t.inputs.now c.args.input c.index-source-input.result c.requires.input) in
    let none = sym c.as_slice-2.ensures.value ∙ none_of c.as_slice-2.result.now c.in-empty.len_below in
    no_other gates lists j c.args.board.now c.args.board.now c.args.parts.now c.args.parts.now c.args.input
    (open_as c.as_slice.result.now c.args.parts.now.literals.items c.as_slice-facts.result.now (slice_index_or lists c.args.input []) c.in_ok-others.others.items [] c.as_slice.ensures.value facts none c.in_ok-others.ensures.same)

pub returns-in-len1-clause-goes : goal.returns-in-len1-clause-goes
returns-in-len1-clause-goes c = λ gates j.
    let t = c.args.source in
    let lists : List (List ℕ) = map (λ xs. xs.items) t.inputs.now in
    let facts = c.as_slice-facts.ensures.value ∙ sym (items_at t.inputs.now c.args.input c.index-source-input.result c.requires.input) in
    let x : ℕ = get_or c.as_slice-2.result.now 0 0 in
    let one = sym c.as_slice-2.ensures.value ∙ one_of c.as_slice-2.result.now 0 c.in-len1.len_at_least c.in-len1.len_below in
    let new : Parts = record { literals = c.push.new.self; inputs = c.args.parts.now.inputs; stack = c.args.parts.now.stack } in
    one_other gates lists j c.args.board.now c.args.board.now c.args.parts.now new c.args.input x
    (open_as c.as_slice.result.now c.args.parts.now.literals.items c.as_slice-facts.result.now (slice_index_or lists c.args.input []) c.in_ok-others.others.items (x ∷ []) c.as_slice.ensures.value facts one c.in_ok-others.ensures.same)
    (c.in_ok-push-in-len1.ensures.items ∙ ap (λ l. c.args.parts.now.literals.items ++ l ∷ []) c.on.ensures) refl refl

pub returns-clause-goes : goal.returns-clause-goes
returns-clause-goes c = λ gates j.
    let t = c.args.source in
    let lists : List (List ℕ) = map (λ xs. xs.items) t.inputs.now in
    let new : Parts = record { literals = c.push-in_default.new.self; inputs = c.args.parts.now.inputs; stack = c.args.parts.now.stack } in
    named_input gates lists j c.args.board.now c.name_input.new.board c.args.parts.now new c.args.input c.in_ok-variable-in_default.variable
    (c.in_ok-variable-in_default.ensures gates j)
    (c.in_ok-push-in_default.ensures.items ∙ ap (λ l. c.args.parts.now.literals.items ++ l ∷ []) c.on-in_default.ensures) refl refl

pub returns-in-len1-clause-within : goal.returns-in-len1-clause-within
returns-in-len1-clause-within c =
    let t = c.args.source in
    let lists : List (List ℕ) = map (λ xs. xs.items) t.inputs.now in
    let end = end_of c.args.board.now.names in
    let facts = c.as_slice-facts.ensures.value ∙ sym (items_at t.inputs.now c.args.input c.index-source-input.result c.requires.input) in
    let x : ℕ = get_or c.as_slice-2.result.now 0 0 in
    let P : List ℕ → Type 0 = λ xs. Contains xs x in
    let among : Contains c.in_ok-others.others.items x = subst P c.as_slice-2.ensures.value (Contains-get_or c.as_slice-2.result.now 0 0 (omega (arith, c.in-len1.len_at_least))) in
    let in-facts : Contains (slice_index_or lists c.args.input []) x = subst P facts (c.in_ok-others.ensures.some x among) in
    let lt : x < end = All-contains (λ x. x < end) (slice_index_or lists c.args.input []) x (facts_at lists c.args.board.now c.args.input c.requires.placed) in-facts in
    literals_one end x c.args.parts.now.literals.items c.push.new.self.items lt (c.in_ok-push-in-len1.ensures.items ∙ ap (λ l. c.args.parts.now.literals.items ++ l ∷ []) c.on.ensures) c.requires.within

pub returns-clause-within : goal.returns-clause-within
returns-clause-within c =
    let t = c.args.source in
    let lists : List (List ℕ) = map (λ xs. xs.items) t.inputs.now in
    let has = c.in_ok-variable-in_default.ensures t.gates.now 0 in
    literals_named 0 c.args.board.now.names c.name_input.new.board.names (Input c.args.input) c.in_ok-variable-in_default.variable c.args.parts.now.literals.items c.push-in_default.new.self.items
    (has.goes (λ w. true)).names has.is (c.in_ok-push-in_default.ensures.items ∙ ap (λ l. c.args.parts.now.literals.items ++ l ∷ []) c.on-in_default.ensures) c.requires.within
