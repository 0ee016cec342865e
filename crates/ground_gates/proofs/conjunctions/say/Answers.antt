use Rattle.std.proofs.Common.{List, ℕ, map, ap, arith, ◌∙◌, ◌++◌, ◌∷◌, []}
use Rattle.ground_gates.specs.declared.gate.Gate.TheVariants.{Yes, No, Input as Leaf, Both, Either}
use Rattle.ground_gates.specs.Said.{clauses_in}
use Rattle.ground_gates.proofs.Disjoined.{at_gate}
use Rattle.ground_gates.proofs.Conjoined.{says_yes, says_no, says_leaf, says_one, says_both, stack_below}
use Rattle.ground_gates.proofs.conjunctions.say.Goals as goal

pub say_input-requires-clause-input : goal.say_input-requires-clause-input
say_input-requires-clause-input c =
    let t = c.args.source in
    let lists : List (List ℕ) = map (λ xs. xs.items) t.inputs.now in
    let at = at_gate c.as_slice.result.now t.gates.now c.args.gate (Leaf c.in-Input.literal) c.as_slice.ensures c.requires.within c.in-Input.is in
    c.requires.inputs c.args.gate (Leaf c.in-Input.literal) at

pub say_either-requires-clause-first : goal.say_either-requires-clause-first
say_either-requires-clause-first c =
    let t = c.args.source in
    let lists : List (List ℕ) = map (λ xs. xs.items) t.inputs.now in
    let at = at_gate c.as_slice.result.now t.gates.now c.args.gate (Either c.in-Either.a c.in-Either.b) c.as_slice.ensures c.requires.within c.in-Either.is in
    omega (arith, (c.len-count.ensures.placed c.args.gate (Either c.in-Either.a c.in-Either.b) at).0, c.requires.gate)

pub say_either-requires-clause-second : goal.say_either-requires-clause-second
say_either-requires-clause-second c =
    let t = c.args.source in
    let lists : List (List ℕ) = map (λ xs. xs.items) t.inputs.now in
    let at = at_gate c.as_slice.result.now t.gates.now c.args.gate (Either c.in-Either.a c.in-Either.b) c.as_slice.ensures c.requires.within c.in-Either.is in
    omega (arith, (c.len-count.ensures.placed c.args.gate (Either c.in-Either.a c.in-Either.b) at).1, c.requires.gate)

pub returns-in-Yes-clause-goes : goal.returns-in-Yes-clause-goes
returns-in-Yes-clause-goes c =
    let t = c.args.source in
    let lists : List (List ℕ) = map (λ xs. xs.items) t.inputs.now in
    let at = at_gate c.as_slice.result.now t.gates.now c.args.gate (Yes) c.as_slice.ensures c.requires.within c.in-Yes.is in
    says_yes t.gates.now lists t.below c.args.gate c.len-count.ensures.placed c.args.board.now c.args.board.now c.args.whole c.args.stack.now.items at

pub returns-in_ok-push-in-No-clause-goes : goal.returns-in_ok-push-in-No-clause-goes
returns-in_ok-push-in-No-clause-goes c =
    let t = c.args.source in
    let lists : List (List ℕ) = map (λ xs. xs.items) t.inputs.now in
    let at = at_gate c.as_slice.result.now t.gates.now c.args.gate (No) c.as_slice.ensures c.requires.within c.in-No.is in
    let pushed = c.in_ok-push-in-No.ensures in
    says_no t.gates.now lists t.below c.args.gate c.len-count.ensures.placed c.args.board.now c.push.new.self c.args.whole c.args.stack.now.items at c.requires.whole pushed.names
    (pushed.clauses ∙ ap (λ ls. clauses_in c.args.board.now ++ ls ∷ []) (c.as_slice-in-No.ensures.value ∙ c.in_ok-literals-in-No.ensures))

pub returns-in_ok-say_input-in-Input-clause-goes : goal.returns-in_ok-say_input-in-Input-clause-goes
returns-in_ok-say_input-in-Input-clause-goes c =
    let t = c.args.source in
    let lists : List (List ℕ) = map (λ xs. xs.items) t.inputs.now in
    let at = at_gate c.as_slice.result.now t.gates.now c.args.gate (Leaf c.in-Input.literal) c.as_slice.ensures c.requires.within c.in-Input.is in
    says_leaf t.gates.now lists t.below c.args.gate c.len-count.ensures.placed c.args.board.now c.say_input.new.board c.args.whole c.args.stack.now.items c.in-Input.literal at
    (c.in_ok-say_input-in-Input.ensures t.gates.now t.below)

pub returns-in_ok-say_either-in-Either-clause-goes : goal.returns-in_ok-say_either-in-Either-clause-goes
returns-in_ok-say_either-in-Either-clause-goes c =
    let t = c.args.source in
    let lists : List (List ℕ) = map (λ xs. xs.items) t.inputs.now in
    let at = at_gate c.as_slice.result.now t.gates.now c.args.gate (Either c.in-Either.a c.in-Either.b) c.as_slice.ensures c.requires.within c.in-Either.is in
    says_one t.gates.now lists t.below c.args.gate c.len-count.ensures.placed c.args.board.now c.say_either.new.board c.args.whole c.args.stack.now.items c.in-Either.a c.in-Either.b at
    c.in_ok-say_either-in-Either.ensures

pub returns-in_ok-push-in-Both-2-clause-goes : goal.returns-in_ok-push-in-Both-2-clause-goes
returns-in_ok-push-in-Both-2-clause-goes c =
    let t = c.args.source in
    let lists : List (List ℕ) = map (λ xs. xs.items) t.inputs.now in
    let at = at_gate c.as_slice.result.now t.gates.now c.args.gate (Both c.in-Both.a c.in-Both.b) c.as_slice.ensures c.requires.within c.in-Both.is in
    says_both t.gates.now lists t.below c.args.gate c.len-count.ensures.placed c.args.board.now c.args.board.now c.args.whole c.args.stack.now.items c.in-Both.a c.in-Both.b c.push-in-Both-2.new.self.items at
    (c.in_ok-push-in-Both-2.ensures.items ∙ ap (λ xs. xs ++ c.in-Both.a ∷ []) c.in_ok-push-in-Both.ensures.items)

pub returns-in_ok-push-in-Both-2-clause-stack : goal.returns-in_ok-push-in-Both-2-clause-stack
returns-in_ok-push-in-Both-2-clause-stack c =
    let t = c.args.source in
    let lists : List (List ℕ) = map (λ xs. xs.items) t.inputs.now in
    let at = at_gate c.as_slice.result.now t.gates.now c.args.gate (Both c.in-Both.a c.in-Both.b) c.as_slice.ensures c.requires.within c.in-Both.is in
    stack_below t.gates.now lists t.below c.args.gate c.len-count.ensures.placed t.below c.in-Both.a c.in-Both.b c.args.stack.now.items c.push-in-Both-2.new.self.items at c.requires.gate
    (c.in_ok-push-in-Both-2.ensures.items ∙ ap (λ xs. xs ++ c.in-Both.a ∷ []) c.in_ok-push-in-Both.ensures.items) c.requires.stack
