use Rattle.std.proofs.Common.{◌∙◌, List, subst, sym, ap, arith, length, length-append}
use Rattle.ground_terms.specs.declared.node.TermNode.{TermNode}
use Rattle.ground_terms.specs.Nodes.{ArePlaced, AreOnce, IsPlaced, IsAdded}
use Rattle.ground_terms.proofs.Sharing.{added_by, more_by_insert, placed_insert, once_insert}
use Rattle.ground_terms.proofs.arena.TermArena.add.Goals as goal

pub invariant_of-self-2 : goal.invariant_of-self-2
invariant_of-self-2 c =
    let P : List TermNode → Type 0 = λ nodes. ArePlaced nodes in
    let O : List TermNode → Type 0 = λ nodes. AreOnce nodes in
    let Q : List TermNode → Type 0 = λ nodes. IsPlaced nodes c.args.node in
    let more = more_by_insert c.self.inside.nodes.keys c.args.node in (
      subst P (sym c.in_ok-place.ensures.keys) (placed_insert _ _ c.self.invariant.0 (subst Q (sym c.self.view_is) c.requires)),
      omega (arith, ap length (c.in_ok-place.ensures.keys ∙ more.1), length-append c.self.inside.nodes.keys more.0, more.2, ap length c.self.view_is),
      subst O (sym c.in_ok-place.ensures.keys) (once_insert _ _ c.self.invariant.2),
    )

pub returns-clause-made : goal.returns-clause-made
returns-clause-made c =
    let P : List TermNode → Type 0 = λ old. IsAdded old c.args.node c.insert_full.new.self.keys c.in_ok-place.place in
    let stored = c.in_ok-place.ensures.stored in
    let Q : List TermNode → Type 0 = λ nodes. IsPlaced nodes c.args.node in
    subst P c.self.view_is (added_by _ _ _ _ stored.0 c.self.invariant.0 (subst Q (sym c.self.view_is) c.requires) c.in_ok-place.ensures.keys stored.1 stored.2)
