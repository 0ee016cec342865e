use Rattle.std.proofs.Common.{◌≡◌, ◌∙◌, ◌+◌, List, [], ◌∷◌, ◌++◌, length, length-append, ap, subst, sym, arith}
use Rattle.ground_instances.specs.declared.shapes.Shape.{Shape}
use Rattle.ground_instances.specs.Shapes.{AreShapes, node_shape}
use Rattle.ground_instances.proofs.ShapeLaws.{shapes_more}
use Rattle.ground_instances.proofs.shapes.shapes_of.Goals as goal

pub loop-at-preserved : goal.loop-at-preserved
loop-at-preserved c =
    let nodes = c.args.arena.now in
    let shapes : List Shape = c.loop-at.shapes.items in
    let shape : Shape = c.in_ok-shape.shape in
    let P : List Shape → Type 0 = λ xs. (length xs ≡ c.loop-at.at + 1) × AreShapes nodes xs in
    let S : Shape → Type 0 = λ s. P (shapes ++ s ∷ []) in
    let long : length (shapes ++ node_shape shapes c.node.result.now ∷ []) ≡ c.loop-at.at + 1 = omega (arith, length-append shapes (node_shape shapes c.node.result.now ∷ []), c.loop-at.invariant.0) in
    let is : shape ≡ node_shape shapes c.node.result.now = c.in_ok-shape.ensures ∙ ap (λ xs. node_shape xs c.node.result.now) c.as_slice.ensures.value in
    subst P (sym c.in_ok-push.ensures.items)
    (subst S (sym is)
    (long, shapes_more nodes c.len-nodes.ensures.placed shapes c.loop-at.invariant.1 c.loop-at.at c.node.result.now c.loop-at.invariant.0 c.node.ensures.node c.node.ensures.placed c.node.ensures.below))
