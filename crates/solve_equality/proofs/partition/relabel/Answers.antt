use Rattle.std.proofs.Common.{arith}
use Rattle.std.proofs.lemmas.Option.{get_or_from_slice_get}
use Rattle.solve_equality.proofs.PartitionLemmas.{IsRelabelled-more}
use Rattle.solve_equality.proofs.partition.relabel.Goals as goal

pub loop-place-preserved : goal.loop-place-preserved
loop-place-preserved c =
    let visits = c.args.members.now.visits in
    let place = c.loop-place.place in
    let at_place = get_or_from_slice_get visits place c.at.result c.at.result c.at.ensures.value in
    rw (← at_place)
    (IsRelabelled-more c.args.classes.now c.loop-place.classes visits place c.args.class c.at.result (omega (arith, c.len-place-end.ensures.value)) (rw at_place (omega (arith, c.at.ensures.within, c.requires))) c.loop-place.invariant)
