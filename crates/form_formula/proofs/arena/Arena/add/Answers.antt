use Rattle.std.proofs.Common.{◌∙◌, List, subst, sym, ap, arith, length, length-append}
use Rattle.form_formula.specs.declared.node.Node.{Node}
use Rattle.form_formula.specs.Nodes.{ArePlaced, IsPlaced}
use Rattle.form_formula.specs.Added.{IsAdded}
use Rattle.form_formula.proofs.Sharing.{added_by, more_by_insert, placed_insert}
use Rattle.form_formula.proofs.arena.Arena.add.Goals as goal

pub invariant_of-self-2 : goal.invariant_of-self-2
invariant_of-self-2 c =
    let P : List Node → Type 0 = λ nodes. ArePlaced nodes in
    let Q : List Node → Type 0 = λ nodes. IsPlaced nodes c.args.node in
    let more = more_by_insert c.self.inside.nodes.keys c.args.node in (
      subst P (sym c.in_ok-place.ensures.keys) (placed_insert _ _ c.self.invariant.0 (subst Q (sym c.self.view_is) c.requires.placed)),
      omega (arith, ap length (c.in_ok-place.ensures.keys ∙ more.1), length-append c.self.inside.nodes.keys more.0, more.2, ap length c.self.view_is, c.requires.room),
    )

pub returns-clause-made : goal.returns-clause-made
returns-clause-made c =
    let P : List Node → Type 0 = λ old. IsAdded old c.args.node c.insert_full.new.self.keys c.in_ok-place.place in
    let stored = c.in_ok-place.ensures.stored in
    let Q : List Node → Type 0 = λ nodes. IsPlaced nodes c.args.node in
    subst P c.self.view_is (added_by _ _ _ _ stored.0 c.self.invariant.0 (subst Q (sym c.self.view_is) c.requires.placed) c.in_ok-place.ensures.keys stored.1 stored.2)
