use Rattle.std.proofs.Common.{List, Vec, Global, ℕ, map, arith, subst, sym}
use Rattle.ground_gates.specs.declared.gate.Literal.{Literal}
use Rattle.ground_gates.specs.Clauses.{HasVarsBelow}
use Rattle.ground_gates.specs.Names.{end_of}
use Rattle.ground_gates.proofs.VarsBelow.{facts_at}
use Rattle.ground_gates.specs.declared.gate.Gate.TheVariants.{Yes, No, Input as Leaf, Either}
use Rattle.ground_gates.proofs.Disjoined.{at_gate, yes_part, no_part, input_part, either_part, gates_kept}
use Rattle.ground_gates.proofs.disjunctions.take.Goals as goal

pub add_input-requires : goal.add_input-requires
add_input-requires c =
    let gates = c.args.source.gates.now in
    let few = c.requires.placed.few in
    c.requires.inputs c.args.gate (Leaf c.in-Input.literal)
    (at_gate c.as_slice.result.now gates c.args.gate (Leaf c.in-Input.literal) c.as_slice.ensures (omega (arith, c.requires.below, few)) c.in-Input.is)

pub returns-in-Yes-clause-goes : goal.returns-in-Yes-clause-goes
returns-in-Yes-clause-goes c =
    let source = c.args.source in
    let few = c.requires.placed.few in
    let lists : List (List ℕ) = map (λ xs. xs.items) source.inputs.now in
    let at = at_gate c.as_slice.result.now source.gates.now c.args.gate Yes c.as_slice.ensures (omega (arith, c.requires.below, few)) c.in-Yes.is in
    yes_part source.gates.now lists source.below c.args.board.now c.args.gate c.len-count.ensures.placed c.args.parts.now c.args.parts.now at

pub returns-in-No-clause-goes : goal.returns-in-No-clause-goes
returns-in-No-clause-goes c =
    let source = c.args.source in
    let few = c.requires.placed.few in
    let lists : List (List ℕ) = map (λ xs. xs.items) source.inputs.now in
    let at = at_gate c.as_slice.result.now source.gates.now c.args.gate No c.as_slice.ensures (omega (arith, c.requires.below, few)) c.in-No.is in
    no_part source.gates.now lists source.below c.args.board.now c.args.gate c.len-count.ensures.placed c.args.parts.now c.args.parts.now at

pub returns-in_ok-add_input-in-Input-clause-goes : goal.returns-in_ok-add_input-in-Input-clause-goes
returns-in_ok-add_input-in-Input-clause-goes c =
    let source = c.args.source in
    let few = c.requires.placed.few in
    let lists : List (List ℕ) = map (λ xs. xs.items) source.inputs.now in
    let l = c.in-Input.literal in
    let at = at_gate c.as_slice.result.now source.gates.now c.args.gate (Leaf l) c.as_slice.ensures (omega (arith, c.requires.below, few)) c.in-Input.is in
    input_part source.gates.now lists source.below c.args.board.now c.args.gate c.len-count.ensures.placed c.args.parts.now c.add_input.new.self l at c.in_ok-add_input-in-Input.ensures

pub returns-in_ok-add_input-in-Input-clause-are : goal.returns-in_ok-add_input-in-Input-clause-are
returns-in_ok-add_input-in-Input-clause-are c = c.in_ok-add_input-in-Input.ensures.are c.args.source.below c.requires.are

pub returns-in_ok-add_named-in-Both-clause-goes : goal.returns-in_ok-add_named-in-Both-clause-goes
returns-in_ok-add_named-in-Both-clause-goes c = c.in_ok-add_named-in-Both.ensures.goes (map (λ xs. xs.items) c.args.source.inputs.now)

pub returns-in_ok-add_named-in-Either-clause-goes : goal.returns-in_ok-add_named-in-Either-clause-goes
returns-in_ok-add_named-in-Either-clause-goes c = c.in_ok-add_named-in-Either.ensures.goes (map (λ xs. xs.items) c.args.source.inputs.now)

pub returns-in_ok-add_gates-in-Either-clause-goes : goal.returns-in_ok-add_gates-in-Either-clause-goes
returns-in_ok-add_gates-in-Either-clause-goes c =
    let source = c.args.source in
    let few = c.requires.placed.few in
    let lists : List (List ℕ) = map (λ xs. xs.items) source.inputs.now in
    let at = at_gate c.as_slice.result.now source.gates.now c.args.gate (Either c.in-Either.a c.in-Either.b) c.as_slice.ensures (omega (arith, c.requires.below, few)) c.in-Either.is in
    either_part source.gates.now lists source.below c.args.board.now c.args.gate c.len-count.ensures.placed c.args.parts.now c.add_gates.new.self c.in-Either.a c.in-Either.b at
    c.in_ok-add_gates-in-Either.ensures

pub returns-in_ok-add_gates-in-Either-clause-are : goal.returns-in_ok-add_gates-in-Either-clause-are
returns-in_ok-add_gates-in-Either-clause-are c =
    let source = c.args.source in
    let few = c.requires.placed.few in
    let lists : List (List ℕ) = map (λ xs. xs.items) source.inputs.now in
    let at = at_gate c.as_slice.result.now source.gates.now c.args.gate (Either c.in-Either.a c.in-Either.b) c.as_slice.ensures (omega (arith, c.requires.below, few)) c.in-Either.is in
    gates_kept source.gates.now lists source.below c.args.gate c.in-Either.a c.in-Either.b c.args.parts.now c.add_gates.new.self c.len-count.ensures.placed at c.requires.below
    c.in_ok-add_gates-in-Either.ensures c.requires.are

pub returns-in_ok-add_input-in-Input-clause-within : goal.returns-in_ok-add_input-in-Input-clause-within
returns-in_ok-add_input-in-Input-clause-within c =
    let end = end_of c.args.board.now.names in
    c.in_ok-add_input-in-Input.ensures.within end (λ k. facts_at (map (λ xs. xs.items) c.args.source.inputs.now) c.args.board.now k c.requires.placed.inputs_placed) c.requires.within

pub returns-in_ok-add_gates-in-Either-clause-within : goal.returns-in_ok-add_gates-in-Either-clause-within
returns-in_ok-add_gates-in-Either-clause-within c =
    let P : Vec Literal Global → Type 0 = λ ls. HasVarsBelow (end_of c.args.board.now.names) ls.items in
    subst P (sym c.in_ok-add_gates-in-Either.ensures.literals) c.requires.within
