use Rattle.std.proofs.Common.{◌≡◌, ℕ, ◌<◌, [], Some, length, slice_get}
use Rattle.indexmap.specs.IndexMap.{get}
use Rattle.ground_problem.specs.declared.words.PairNode.{PairNode}
use Rattle.decide_reading.specs.Firsts.{ArePlacesBelow}
use Rattle.decide_reading.specs.Settled.{AreRivals, HasPairSettled}
use Rattle.decide_reading.specs.contracts.keys.PairKeyPartialEq.TheImpl as key_eq
use Rattle.decide_reading.proofs.broken_pairs.pair_rivals_among.Given as goal

abbrev pub invariant-loop-place : goal.invariant-loop-place
invariant-loop-place l =
    ArePlacesBelow (length l.pairs) (get (key_eq.ghosts).eq l.firsts.places)
    × AreRivals (length l.pairs) l.rivals.items
    × ((j : ℕ) (pair : PairNode) → j < l.place → slice_get l.pairs j ≡ Some pair → l.rivals.items ≡ []
    → HasPairSettled l.source.terms.now l.source.found.now (get (key_eq.ghosts).eq l.firsts.places) j pair)
