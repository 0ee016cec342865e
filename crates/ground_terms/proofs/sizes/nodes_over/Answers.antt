use Rattle.std.proofs.Common.{◌≡◌, ◌∙◌, ℕ, ◌+◌, ◌<◌, List, [], ◌∷◌, ◌++◌, length, length-append, sym, ap, subst, arith}
use Rattle.form_formula.specs.declared.node.Node.{Node}
use Rattle.form_formula.specs.Nodes.{IsBelow, tree_of}
use Rattle.form_formula.proofs.Placement.{kind_within}
use Rattle.form_terms.specs.Counts.{counted}
use Rattle.ground_terms.specs.Counting.{IsAlike, count_in, tree_size, node_size}
use Rattle.ground_terms.proofs.TreeSizes.{sizes_more, node_sized, formula_tree}
use Rattle.ground_terms.proofs.sizes.nodes_over.Goals as goal

pub loop-at-preserved : goal.loop-at-preserved
loop-at-preserved c =
    let nodes : List Node = c.args.arena.now in
    let count : ℕ → ℕ = count_in c.args.counts.now in
    let sizes : List ℕ = c.loop-at.sizes.items in
    let size : ℕ = c.size_of-size.result in
    let P : List ℕ → Type 0 = λ xs. (length xs ≡ c.loop-at.at + 1) × ((k : ℕ) → k < c.loop-at.at + 1 → IsAlike (count_in xs k) (tree_size count (tree_of nodes k))) in
    let Q : List ℕ → Type 0 = λ xs. IsAlike size (node_size count (count_in xs) c.node.result.now) in
    let long : length (sizes ++ size ∷ []) ≡ c.loop-at.at + 1 = omega (arith, length-append sizes (size ∷ []), c.loop-at.invariant.0) in
    subst P (sym c.in_ok-push.ensures.items)
    (long, sizes_more nodes c.len-nodes.ensures.placed count sizes size c.loop-at.at c.node.result.now c.loop-at.invariant.0 c.node.ensures.node c.node.ensures.placed c.node.ensures.below c.loop-at.invariant.1 (subst Q c.as_slice.ensures.value c.size_of-size.ensures))

pub node-requires-2 : goal.node-requires-2
node-requires-2 c = kind_within c.args.arena.now c.args.id _ c.requires

pub returns : goal.returns
returns c =
    let nodes : List Node = c.args.arena.now in
    let count : ℕ → ℕ = count_in c.args.counts.now in
    let sizes : List ℕ = c.loop-at.sizes.items in
    let end : c.args.id ≡ length sizes = omega (arith, c.loop-at.invariant.0) in
    let Q : List ℕ → Type 0 = λ xs. IsAlike c.size_of.result (node_size count (count_in xs) c.node-2.result.now) in
    let B : ℕ → Type 0 = λ k. IsBelow k c.node-2.result.now in
    subst Q c.as_slice-2.ensures.value c.size_of.ensures
    ∙ (node_sized nodes c.len-nodes.ensures.placed count sizes (λ k lt. c.loop-at.invariant.1 k (omega (arith, lt, c.loop-at.invariant.0))) c.node-2.result.now c.node-2.ensures.placed (subst B end c.node-2.ensures.below)
    ∙ ap (λ t. counted (tree_size count t)) (sym c.node-2.ensures.means ∙ formula_tree nodes c.len-nodes.ensures.placed c.args.id c.requires))
