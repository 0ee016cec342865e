use Rattle.std.proofs.Common.{List, ℕ, map}
use Rattle.ground_gates.proofs.Conjoined.{said_on}
use Rattle.ground_gates.proofs.conjunctions.say_stack.Goals as goal

pub loop-step-preserved : goal.loop-step-preserved
loop-step-preserved c =
    let t = c.args.source in
    let lists : List (List ℕ) = map (λ xs. xs.items) t.inputs.now in
    said_on t.gates.now lists t.below c.args.whole c.args.board.now c.args.stack.now.items c.loop-step.board c.say_part.new.board c.loop-step.stack.items c.pop.new.self.items c.say_part.new.stack.items c.in-Some.gate
    c.loop-step.invariant c.in-Some.ensures.items c.in_ok-say_part.ensures.goes c.in_ok-say_part.ensures.stack
