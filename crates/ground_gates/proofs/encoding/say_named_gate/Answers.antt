use Rattle.std.proofs.Common.{List, ℕ, map}
use Rattle.ground_gates.proofs.EncodedLaws.{encoded_none, encoded_on}
use Rattle.ground_gates.proofs.encoding.say_named_gate.Goals as goal

pub returns-in_default-clause-encoded : goal.returns-in_default-clause-encoded
returns-in_default-clause-encoded c = λ base h.
    let t = c.args.source in
    let lists : List (List ℕ) = map (λ xs. xs.items) t.inputs.now in
    encoded_none t.gates.now lists base t.below c.args.board.now c.args.gate c.in_default.ensures h

pub returns-clause-encoded : goal.returns-clause-encoded
returns-clause-encoded c = λ base h.
    let t = c.args.source in
    let lists : List (List ℕ) = map (λ xs. xs.items) t.inputs.now in
    encoded_on t.gates.now lists base t.below c.args.board.now c.say_all.new.board c.args.gate c.in-Some.variable c.in-Some.ensures c.in_ok-say_all.ensures h
