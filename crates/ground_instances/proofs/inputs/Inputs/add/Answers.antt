use Rattle.std.proofs.Common.{◌∙◌, List, subst, ap, arith, length, length-append}
use Rattle.ground_instances.specs.declared.input.Input.{Input}
use Rattle.ground_instances.specs.Inputs.{IsNumbered}
use Rattle.ground_instances.proofs.InputLaws.{numbered_by, more_by_insert}
use Rattle.ground_instances.proofs.inputs.Inputs.add.Goals as goal

pub invariant_of-self-2 : goal.invariant_of-self-2
invariant_of-self-2 c =
    let more = more_by_insert c.self.inside.inputs.keys c.args.input in
    omega (arith, ap length (c.in_ok-place.ensures.keys ∙ more.1), length-append c.self.inside.inputs.keys more.0, more.2, ap length c.self.view_is)

pub returns-clause-made : goal.returns-clause-made
returns-clause-made c =
    let P : List Input → Type 0 = λ old. IsNumbered old c.args.input c.insert_full.new.self.keys c.in_ok-place.place in
    let stored = c.in_ok-place.ensures.stored in
    subst P c.self.view_is (numbered_by _ _ _ _ stored.0 c.in_ok-place.ensures.keys stored.1 stored.2)
