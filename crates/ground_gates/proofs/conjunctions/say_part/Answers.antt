use Rattle.std.proofs.Common.{List, ℕ, map}
use Rattle.ground_gates.proofs.Conjoined.{says_by_name}
use Rattle.ground_gates.proofs.conjunctions.say_part.Goals as goal

pub returns-in_ok-say_named-clause-goes : goal.returns-in_ok-say_named-clause-goes
returns-in_ok-say_named-clause-goes c =
    let t = c.args.source in
    let lists : List (List ℕ) = map (λ xs. xs.items) t.inputs.now in
    says_by_name t.gates.now lists t.below c.args.whole c.args.board.now c.say_named.new.board c.args.gate c.args.stack.now.items (c.in_ok-say_named.ensures lists)
