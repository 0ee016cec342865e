use Rattle.std.proofs.Common.{◌≡◌, ◌+◌, Bool, true, List, [], ◌∷◌, ◌++◌, length, length-append, ◌∙◌, sym, ap, subst, arith}
use Rattle.form_formula.specs.declared.node.Node.{Node}
use Rattle.form_formula.specs.Nodes.{tree_of, tree_from, trees_of}
use Rattle.ground_terms.specs.Codes.{is_marked}
use Rattle.ground_terms.specs.Matrices.{AreMatrices, IsPlainNode}
use Rattle.ground_terms.proofs.Matrices.{matrices-more}
use Rattle.ground_terms.proofs.matrix.matrices_below.Goals as goal

pub loop-at-preserved : goal.loop-at-preserved
loop-at-preserved c =
    let nodes : List Node = c.args.arena.now in
    let n : Node = c.node.result.now in
    let marks : List Bool = c.loop-at.marks.items in
    let mark : Bool = c.is_plain-mark.result in
    let P : List Bool → Type 0 = λ xs. (length xs ≡ c.loop-at.at + 1) × AreMatrices nodes xs in
    let M : List Bool → Type 0 = λ xs. mark ≡ true → IsPlainNode (λ k. is_marked xs k ≡ true) n in
    let long : length (marks ++ mark ∷ []) ≡ c.loop-at.at + 1 = omega (arith, length-append marks (mark ∷ []), c.loop-at.invariant.0) in
    let means : tree_of nodes (length marks) ≡ tree_from (trees_of nodes) n = ap (tree_of nodes) c.loop-at.invariant.0 ∙ c.node.ensures.means in
    subst P (sym c.in_ok-push.ensures.items)
    (long, matrices-more nodes marks mark n c.loop-at.invariant.1 c.node.ensures.placed means (subst M c.as_slice.ensures.value c.is_plain-mark.ensures))
