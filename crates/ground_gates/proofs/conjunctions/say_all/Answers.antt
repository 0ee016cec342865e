use Rattle.std.proofs.Common.{List, ℕ, map, subst, ◌∷◌}
use Rattle.ground_gates.specs.Said.{Goes, all_under}
use Rattle.ground_gates.proofs.Conjoined.{says_whole}
use Rattle.ground_gates.proofs.conjunctions.say_all.Goals as goal

pub returns : goal.returns
returns c =
    let t = c.args.source in
    let lists : List (List ℕ) = map (λ xs. xs.items) t.inputs.now in
    let P : List ℕ → Type 0 = λ ks. Goes t.gates.now lists t.below c.args.board.now c.say.new.board (all_under t.gates.now lists c.args.whole (t.below ∷ ks)) (all_under t.gates.now lists c.args.whole c.say.new.stack.items) in
    says_whole t.gates.now lists t.below c.args.whole c.args.board.now c.say.new.board c.say_stack.new.board c.say_rest.new.board t.below c.say.new.stack.items c.say_stack.new.stack.items c.say_rest.new.stack.items
    (subst P c.new-stack.ensures.items c.in_ok-say.ensures.goes) c.in_ok-say_stack.ensures.goes c.in_ok-say_rest.ensures.goes c.in_ok-say_rest.ensures.none
