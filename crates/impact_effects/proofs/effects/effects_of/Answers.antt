use Rattle.std.proofs.Common.{◌≡◌, ◌∙◌, arith}
use Rattle.type_schema.specs.SchemaViews.{script_of}
use Rattle.impact_effects.specs.Effects.{IsEffect}
use Rattle.impact_effects.proofs.Shows.{one_more}
use Rattle.impact_effects.proofs.effects.effects_of.Goals as goal

pub loop-duty-preserved : goal.loop-duty-preserved
loop-duty-preserved g c =
    let one = one_more (IsEffect (script_of c.args.t.now) c.args.signature.now) c.loop-duty.effects.items c.push.new.self.items c.in_ok-effect.effect c.args.weakenings.now c.loop-duty.duty-index _
    c.loop-duty-test.true c.in_ok-effect.ensures.duty c.in_ok-push.ensures.items c.loop-duty.invariant.0 c.loop-duty.invariant.1 c.in_ok-effect.ensures.effect in
    (one.0, one.1, c.in_ok-effect.ensures.kept ∙ c.loop-duty.invariant.2)
