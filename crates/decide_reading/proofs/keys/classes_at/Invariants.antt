use Rattle.decide_reading.proofs.KeyLaws.{IsDownClasses}
use Rattle.decide_reading.proofs.keys.classes_at.Given as goal

abbrev pub invariant-down : goal.invariant-down
invariant-down l = IsDownClasses l.source.terms.now l.source.found.now l.list l.at l.classes

abbrev pub decreases-down : goal.decreases-down
decreases-down l = l.at
