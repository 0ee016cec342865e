use Rattle.std.proofs.Common.{arith}
use Rattle.impact_shrink.proofs.Listed.{places-done}
use Rattle.impact_shrink.proofs.places.push_places.Goals as goal

pub returns : goal.returns
returns c =
    places-done c.args.d.now c.args.m c.args.places.now.items c.loop-record.places.items c.records-record-items.result.now c.loop-record.record-index
    c.loop-record.invariant (omega arith) c.records-record-items.ensures.all
