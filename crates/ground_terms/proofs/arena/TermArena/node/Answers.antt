use Rattle.std.proofs.Common.{◌≡◌, ◌∙◌, List, Some, subst, sym, ap, get_or}
use Rattle.std.specs.Prelude.{slice_get}
use Rattle.std.proofs.lemmas.Option.{slice_get-get_or}
use Rattle.ground_terms.specs.declared.node.TermNode.{TermNode}
use Rattle.ground_terms.specs.declared.node.TermNode.TheVariants.{Constant}
use Rattle.ground_terms.specs.Nodes.{ArePlaced}
use Rattle.ground_terms.proofs.Placement.{parts_below, parts_placed}
use Rattle.ground_terms.proofs.TreeLemmas.{tree_of-at}
use Rattle.ground_terms.proofs.arena.TermArena.node.Goals as goal

all_placed : (c : goal.After-result-1) → ArePlaced c.args.self.now
all_placed c = let P : List TermNode → Type 0 = λ nodes. ArePlaced nodes in subst P c.self.view_is c.self.invariant.0

-- the node stands at its number
there : (c : goal.After-result-1) → slice_get c.args.self.now c.args.id ≡ Some (get_or c.as_slice.result.now c.args.id (Constant 0))
there c =
    slice_get-get_or c.args.self.now c.args.id (Constant 0) c.requires
    ∙ ap (λ xs. Some (get_or xs c.args.id (Constant 0))) (sym (c.as_slice.ensures.keys ∙ c.self.view_is))

pub returns-clause-placed : goal.returns-clause-placed
returns-clause-placed c = parts_placed _ c.args.id _ (all_placed c) (there c)

pub returns-clause-below : goal.returns-clause-below
returns-clause-below c = parts_below _ c.args.id _ (all_placed c) (there c)

pub returns-clause-means : goal.returns-clause-means
returns-clause-means c = tree_of-at _ c.args.id _ (all_placed c) (there c)
