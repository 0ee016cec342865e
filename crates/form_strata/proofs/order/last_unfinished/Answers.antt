use Rattle.std.proofs.Common.{length, rules}
use Rattle.std.proofs.lemmas.List.Elements.{Contains-get_or}
use Rattle.form_strata.proofs.OrderLemmas.{place_taken, top_small}
use Rattle.form_strata.proofs.order.last_unfinished.Goals as goal

pub is_done-requires : goal.is_done-requires
is_done-requires c =
    let within = top_small (length c.args.graph.now) c.loop-place.places.items c.pop.new.self.items c.in-Some.place c.in-Some.ensures.items c.loop-place.invariant.0 in
    (c.requires.below _ _ (Contains-get_or c.args.graph.now c.in-Some.place (0, 0) within)).0

pub loop-place-preserved : goal.loop-place-preserved
loop-place-preserved c =
    place_taken c.args.graph.now c.args.marks.now c.args.places.now.items c.loop-place.places.items c.pop.new.self.items c.in-Some.place c.in-Some.ensures.items
    (c.if-not-is_done.ensures.0 (search rules)) c.loop-place.invariant
