use Rattle.std.proofs.Common.{◌<◌, ◌++◌, ap, sym, ◌∙◌, length, arith}
use Rattle.type_schema.specs.SchemaViews.{model_info_of, script_of}
use Rattle.online_meaning.proofs.Waits.{of-model}
use Rattle.online_ground.proofs.Loops.{flat_take}
use Rattle.online_ground.proofs.slow.slow_names.Goals as goal

pub loop-info-preserved : goal.loop-info-preserved
loop-info-preserved c =
    let f = of-model (script_of c.args.t.now) c.args.d.now in
    let below : c.loop-info.info-index < length c.as_slice-models.result.now = omega arith in
    c.in_ok-add_slow.ensures
    ∙ (ap (λ ns. ns ++ f (model_info_of c.info-item.result)) c.loop-info.invariant
    ∙ sym (flat_take f model_info_of c.as_slice-models.result.now c.loop-info.info-index c.info-item.result below c.info-item.is))
