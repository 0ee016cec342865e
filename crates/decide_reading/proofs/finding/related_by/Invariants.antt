use Rattle.std.proofs.Common.{◌≡◌, map, take, false}
use Rattle.std.specs.Prelude.{position}
use Rattle.decide_reading.specs.Columns.{at_or, is_same_pair}
use Rattle.decide_reading.proofs.finding.related_by.Given as goal

abbrev pub invariant-loop-pair : goal.invariant-loop-pair
invariant-loop-pair l = l.related ≡ map (λ p. at_or l.columns.related (position (is_same_pair p) l.pairs) false) (take l.pair-index l.list)
