use Rattle.std.proofs.Common.{List, take, subst, sym, arith}
use Rattle.std.proofs.lemmas.List.{take_more, length-take}
use Rattle.ground_problem.specs.declared.words.PairNode.{PairNode}
use Rattle.decide_reading.specs.Firsts.{AreFirstPlaces}
use Rattle.decide_reading.proofs.pairs.Pairs.of.Goals as goal

pub loop-place-preserved : goal.loop-place-preserved
loop-place-preserved c =
    let ps = c.args.pairs.now in
    let k = c.loop-place.place in
    let P : List PairNode → Type 0 = λ ps. AreFirstPlaces c.note.new.places.entries ps in
    subst P (sym (take_more ps k (record { relation = 0; holder = 0; member = 0 }) c.loop-place-test.true))
    (c.in_ok-note.ensures (take k ps) (omega (arith, length-take k ps, c.loop-place-test.true)) c.loop-place.invariant)
