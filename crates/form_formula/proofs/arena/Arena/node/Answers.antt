use Rattle.std.proofs.Common.{◌≡◌, ◌∙◌, List, Some, subst, ap, arith, refl, length, get_or}
use Rattle.std.specs.Prelude.{slice_get}
use Rattle.std.proofs.lemmas.Option.{slice_get_read}
use Rattle.form_formula.specs.declared.node.Node.{Node}
use Rattle.form_formula.specs.Nodes.{IsPlaced, trees_of, tree_of, tree_from}
use Rattle.form_formula.proofs.Placement.{parts_below, parts_placed}
use Rattle.form_formula.proofs.TreeLemmas.{tree_of-at}
use Rattle.form_formula.proofs.arena.Arena.node.Goals as goal

-- the node stands at its number
there : (c : goal.After-index-as_slice-id) → slice_get c.self.inside.nodes.keys c.args.id ≡ Some c.index-as_slice-id.result
there c =
    slice_get_read c.self.inside.nodes.keys (length c.self.inside.nodes.keys) c.args.id c.index-as_slice-id.result refl (omega (arith, ap length c.self.view_is))
    (c.index-as_slice-id.is ∙ ap (λ xs. get_or xs c.args.id c.index-as_slice-id.result) c.as_slice.ensures.keys)

pub returns-clause-placed : goal.returns-clause-placed
returns-clause-placed c =
    let P : List Node → Type 0 = λ nodes. IsPlaced nodes c.index-as_slice-id.result in
    subst P c.self.view_is (parts_placed _ c.args.id _ c.self.invariant.0 (there c))

pub returns-clause-below : goal.returns-clause-below
returns-clause-below c = parts_below _ c.args.id _ c.self.invariant.0 (there c)

pub returns-clause-means : goal.returns-clause-means
returns-clause-means c =
    let P : List Node → Type 0 = λ nodes. tree_of nodes c.args.id ≡ tree_from (trees_of nodes) c.index-as_slice-id.result in
    subst P c.self.view_is (tree_of-at _ c.args.id _ c.self.invariant.0 (there c))
