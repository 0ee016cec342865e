use Rattle.std.proofs.Common.{List, subst}
use Rattle.std.proofs.lemmas.List.{take_all}
use Rattle.ground_instances.specs.declared.input.Input.{Input}
use Rattle.ground_instances.specs.declared.input.Input.TheVariants.{There}
use Rattle.ground_problem.specs.Inputs.{AddsFields}
use Rattle.ground_problem.proofs.FieldLaws.{fields_next, input_at, input_kept, no_fields}
use Rattle.ground_problem.proofs.fields.fields_of.Goals as goal

pub loop-input-init : goal.loop-input-init
loop-input-init c = no_fields c.args.terms.now _ c.new-fields.ensures.items

pub field_of-requires : goal.field_of-requires
field_of-requires c =
    input_kept c.args.terms.now c.loop-input.terms _ c.loop-input.invariant.kept (input_at c.args.terms.now c.args.inputs.now c.loop-input.input-index (There 0) c.loop-input-test.true c.requires)

pub loop-input-preserved : goal.loop-input-preserved
loop-input-preserved c =
    fields_next c.args.terms.now c.loop-input.terms c.field_of.new.terms c.args.inputs.now c.loop-input.input-index (There 0) c.loop-input.fields.items c.push.new.self.items c.in_ok-id.id c.loop-input-test.true c.requires
    c.loop-input.invariant c.in_ok-id.ensures c.in_ok-push.ensures.items

pub returns : goal.returns
returns c =
    let P : List Input → Type 0 = λ is. AddsFields c.args.terms.now c.loop-input.terms is c.loop-input.fields.items in
    subst P (take_all c.loop-input.input-index c.args.inputs.now c.loop-input-test.false) c.loop-input.invariant
