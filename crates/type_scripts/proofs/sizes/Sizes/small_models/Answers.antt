use Rattle.std.proofs.lemmas.Result.{err_from_is_err_and}
use Rattle.type_schema.specs.SchemaViews.{model_info_of, schema_of}
use Rattle.type_specs.specs.Sizes.{model_sizes}
use Rattle.type_scripts.specs.Counted.{counted}
use Rattle.type_scripts.proofs.Counted.{part_counted, part_at_fault, parts_counted}
use Rattle.type_scripts.proofs.sizes.Sizes.small_models.Goals as goal

pub returns-in_err-left : goal.returns-in_err-left
returns-in_err-left c =
    let p = err_from_is_err_and c.from_residual.result c.from_residual.ensures.1 in
    rw (p.1, p.2)
    (λ missing.
    part_at_fault (model_sizes counted (schema_of c.args.self.now.schema.now)) model_info_of c.args.models.now c.loop-model.model-index c.model-item.result c.loop-model.left.now
    _ _ c.loop-model-test.true c.model-item.is c.loop-model.invariant (c.in_err-left.ensures missing))

pub loop-model-preserved : goal.loop-model-preserved
loop-model-preserved c =
    part_counted (model_sizes counted (schema_of c.args.self.now.schema.now)) model_info_of c.args.models.now c.loop-model.model-index c.model-item.result c.loop-model.left.now
    c.in_ok-left.left.now _ c.loop-model-test.true c.model-item.is c.loop-model.invariant c.in_ok-left.ensures

pub returns : goal.returns
returns c =
    parts_counted (model_sizes counted (schema_of c.args.self.now.schema.now)) model_info_of c.args.models.now c.loop-model.model-index c.loop-model.left.now _ c.loop-model-test.false
    c.loop-model.invariant
