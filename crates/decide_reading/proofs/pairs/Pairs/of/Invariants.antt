use Rattle.std.proofs.Common.{take}
use Rattle.decide_reading.specs.Firsts.{AreFirstPlaces}
use Rattle.decide_reading.proofs.pairs.Pairs.of.Given as goal

abbrev pub invariant-loop-place : goal.invariant-loop-place
invariant-loop-place l = AreFirstPlaces l.places.entries (take l.place l.pairs)
