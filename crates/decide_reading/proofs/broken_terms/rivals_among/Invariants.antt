use Rattle.std.proofs.Common.{◌≡◌, ℕ, ◌<◌, [], Some, length, slice_get}
use Rattle.indexmap.specs.IndexMap.{get}
use Rattle.decide_reading.specs.Firsts.{ArePlacesBelow}
use Rattle.decide_reading.specs.Settled.{AreRivals, HasSettled}
use Rattle.decide_reading.specs.contracts.keys.KeyPartialEq.TheImpl as key_eq
use Rattle.decide_reading.proofs.broken_terms.rivals_among.Given as goal

abbrev pub invariant-loop-place : goal.invariant-loop-place
invariant-loop-place l =
    ArePlacesBelow (length l.ids) (get (key_eq.ghosts).eq l.firsts.places)
    × AreRivals (length l.ids) l.rivals.items
    × ((j id : ℕ) → j < l.place → slice_get l.ids j ≡ Some id → l.rivals.items ≡ [] → HasSettled l.source.terms.now l.source.found.now l.ids (get (key_eq.ghosts).eq l.firsts.places) id)
