use Rattle.std.proofs.Common.{◌∙◌, List, subst, sym, ap, arith, length, length-append}
use Rattle.ground_gates.specs.declared.gate.Gate.{Gate}
use Rattle.ground_gates.specs.Gates.{ArePlaced, IsPlaced}
use Rattle.ground_gates.specs.Added.{IsAdded}
use Rattle.ground_gates.proofs.Sharing.{added_by, more_by_insert, placed_insert}
use Rattle.ground_gates.proofs.gates.Gates.add.Goals as goal

pub invariant_of-self-2 : goal.invariant_of-self-2
invariant_of-self-2 c =
    let P : List Gate → Type 0 = λ gates. ArePlaced gates in
    let Q : List Gate → Type 0 = λ gates. IsPlaced (length gates) c.args.gate in
    let more = more_by_insert c.self.inside.gates.keys c.args.gate in (
      subst P (sym c.in_ok-place.ensures.keys) (placed_insert _ _ c.self.invariant.0 (subst Q (sym c.self.view_is) c.requires)),
      omega (arith, ap length (c.in_ok-place.ensures.keys ∙ more.1), length-append c.self.inside.gates.keys more.0, more.2, ap length c.self.view_is),
    )

pub returns-clause-made : goal.returns-clause-made
returns-clause-made c =
    let P : List Gate → Type 0 = λ old. IsAdded old c.args.gate c.insert_full.new.self.keys c.in_ok-place.place in
    let stored = c.in_ok-place.ensures.stored in
    let Q : List Gate → Type 0 = λ gates. IsPlaced (length gates) c.args.gate in
    subst P c.self.view_is (added_by _ _ _ _ stored.0 c.self.invariant.0 (subst Q (sym c.self.view_is) c.requires) c.in_ok-place.ensures.keys stored.1 stored.2)
