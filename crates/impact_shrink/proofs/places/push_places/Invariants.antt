use Rattle.std.proofs.Common.{◌≡◌, ◌++◌, map, take}
use Rattle.impact_shrink.proofs.places.push_places.Given as goal

abbrev pub invariant-loop-record : goal.invariant-loop-record
invariant-loop-record l = l.places.items ≡ l.fn.places.items ++ map (λ r. record { model = l.m; id = r.id }) (take l.record-index l.record-items)
