use Rattle.std.proofs.Common.{◌≡◌, ◌++◌, map, take}
use Rattle.impact_shrink.specs.Dropped.{places_of}
use Rattle.impact_shrink.proofs.places.push_all.Given as goal

abbrev pub invariant-loop-info : goal.invariant-loop-info
invariant-loop-info l = l.places.items ≡ l.fn.places.items ++ places_of l.d (map (λ info. info.number) (take l.info-index l.models))
