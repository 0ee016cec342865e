use Rattle.std.proofs.Common.{List, ℕ, map}
use Rattle.ground_gates.proofs.Conjoined.{said_on, said_popped, says_by_name}
use Rattle.ground_gates.proofs.conjunctions.say_rest.Goals as goal

pub loop-gate-preserved : goal.loop-gate-preserved
loop-gate-preserved c =
    let t = c.args.source in
    let lists : List (List ℕ) = map (λ xs. xs.items) t.inputs.now in
    let mid = c.pop.new.self.items in
    let k = c.in-Some.gate in
    let (below, rest) = said_popped t.gates.now lists t.below c.args.whole c.loop-gate.stack.items mid k c.in-Some.ensures.items c.loop-gate.invariant.below in
    said_on t.gates.now lists t.below c.args.whole c.args.board.now c.args.stack.now.items c.loop-gate.board c.say_named.new.board c.loop-gate.stack.items mid mid k
    c.loop-gate.invariant c.in-Some.ensures.items (says_by_name t.gates.now lists t.below c.args.whole c.loop-gate.board c.say_named.new.board k mid (c.in_ok-say_named.ensures lists)) rest
