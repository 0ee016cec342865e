use Rattle.std.proofs.lemmas.Result.{err_from_is_err_and}
use Rattle.type_schema.specs.SchemaViews.{field_info_of, schema_of}
use Rattle.type_specs.specs.Sizes.{field_sizes}
use Rattle.type_scripts.specs.Counted.{counted}
use Rattle.type_scripts.proofs.Counted.{part_counted, part_at_fault, parts_counted}
use Rattle.type_scripts.proofs.sizes.Sizes.small_fields.Goals as goal

pub returns-in_err-left : goal.returns-in_err-left
returns-in_err-left c =
    let p = err_from_is_err_and c.from_residual.result c.from_residual.ensures.1 in
    rw (p.1, p.2)
    (λ missing.
    part_at_fault (field_sizes counted (schema_of c.args.self.now.schema.now)) field_info_of c.args.fields.now c.loop-field.field-index c.field-item.result c.loop-field.left.now
    _ _ c.loop-field-test.true c.field-item.is c.loop-field.invariant (c.in_err-left.ensures missing))

pub loop-field-preserved : goal.loop-field-preserved
loop-field-preserved c =
    part_counted (field_sizes counted (schema_of c.args.self.now.schema.now)) field_info_of c.args.fields.now c.loop-field.field-index c.field-item.result c.loop-field.left.now
    c.in_ok-left.left.now _ c.loop-field-test.true c.field-item.is c.loop-field.invariant c.in_ok-left.ensures

pub returns : goal.returns
returns c =
    parts_counted (field_sizes counted (schema_of c.args.self.now.schema.now)) field_info_of c.args.fields.now c.loop-field.field-index c.loop-field.left.now _ c.loop-field-test.false
    c.loop-field.invariant
