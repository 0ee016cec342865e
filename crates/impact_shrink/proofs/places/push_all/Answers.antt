use Rattle.impact_shrink.proofs.Listed.{places-more}
use Rattle.impact_shrink.proofs.places.push_all.Goals as goal

pub loop-info-preserved : goal.loop-info-preserved
loop-info-preserved c =
    places-more c.args.d.now c.args.models.now c.loop-info.info-index c.info-item.result c.loop-info-test.true c.info-item.is
    c.args.places.now.items c.loop-info.places.items c.push_places.new.places.items c.loop-info.invariant c.in_ok-push_places.ensures
