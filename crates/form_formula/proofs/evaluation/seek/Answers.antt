use Rattle.std.proofs.Common.{◌≡◌, List, subst}
use Rattle.form_formula.specs.declared.node.Node.{Node}
use Rattle.form_formula.specs.Nodes.{IsPlaced, tree_of, tree_from, trees_of}
use Rattle.form_formula.proofs.MoveLemmas.{move_to, move_not, move_and, move_or}
use Rattle.form_formula.proofs.evaluation.seek.Goals as goal

pub returns-in_ok-push-in-Not : goal.returns-in_ok-push-in-Not
returns-in_ok-push-in-Not c =
    let nodes : List Node = c.args.arena.now in
    let P : Node → Type 0 = λ n. IsPlaced nodes n in
    let M : Node → Type 0 = λ n. tree_of nodes c.args.id ≡ tree_from (trees_of nodes) n in
    let placed = subst P c.in-Not.is c.node.ensures.placed in
    move_to c.args.structure.now nodes c.args.waiting.now.frames.items _ _ _ _ _ _ _ c.in_ok-push-in-Not.ensures.frames c.in_ok-push-in-Not.ensures.elements
    (move_not c.args.structure.now nodes c.args.waiting.now.frames.items c.args.waiting.now.elements.items c.args.id c.in-Not.a c.requires.waiting placed
    (subst M c.in-Not.is c.node.ensures.means))

pub returns-in_ok-push-in-And : goal.returns-in_ok-push-in-And
returns-in_ok-push-in-And c =
    let nodes : List Node = c.args.arena.now in
    let P : Node → Type 0 = λ n. IsPlaced nodes n in
    let M : Node → Type 0 = λ n. tree_of nodes c.args.id ≡ tree_from (trees_of nodes) n in
    let placed = subst P c.in-And.is c.node.ensures.placed in
    move_to c.args.structure.now nodes c.args.waiting.now.frames.items _ _ _ _ _ _ _ c.in_ok-push-in-And.ensures.frames c.in_ok-push-in-And.ensures.elements
    (move_and c.args.structure.now nodes c.args.waiting.now.frames.items c.args.waiting.now.elements.items c.args.id c.in-And.a c.in-And.b c.requires.waiting placed.0 placed.1
    (subst M c.in-And.is c.node.ensures.means))

pub returns-in_ok-push-in-Or : goal.returns-in_ok-push-in-Or
returns-in_ok-push-in-Or c =
    let nodes : List Node = c.args.arena.now in
    let P : Node → Type 0 = λ n. IsPlaced nodes n in
    let M : Node → Type 0 = λ n. tree_of nodes c.args.id ≡ tree_from (trees_of nodes) n in
    let placed = subst P c.in-Or.is c.node.ensures.placed in
    move_to c.args.structure.now nodes c.args.waiting.now.frames.items _ _ _ _ _ _ _ c.in_ok-push-in-Or.ensures.frames c.in_ok-push-in-Or.ensures.elements
    (move_or c.args.structure.now nodes c.args.waiting.now.frames.items c.args.waiting.now.elements.items c.args.id c.in-Or.a c.in-Or.b c.requires.waiting placed.0 placed.1
    (subst M c.in-Or.is c.node.ensures.means))
