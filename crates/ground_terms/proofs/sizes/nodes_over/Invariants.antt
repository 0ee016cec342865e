use Rattle.std.proofs.Common.{◌≡◌, ℕ, ◌<◌, length}
use Rattle.form_formula.specs.Nodes.{tree_of}
use Rattle.ground_terms.specs.Counting.{IsAlike, count_in, tree_size}
use Rattle.ground_terms.proofs.sizes.nodes_over.Given as goal

abbrev pub invariant-loop-at : goal.invariant-loop-at
invariant-loop-at l =
    (length l.sizes.items ≡ l.at) × ((k : ℕ) → k < l.at → IsAlike (count_in l.sizes.items k) (tree_size (count_in l.counts) (tree_of l.arena k)))
