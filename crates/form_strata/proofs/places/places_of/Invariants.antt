use Rattle.std.proofs.Common.{map, length, ◌≤◌}
use Rattle.form_strata.specs.Places.{AreGrouped}
use Rattle.form_strata.proofs.places.places_of.Given as goal

abbrev pub invariant-loop-place : goal.invariant-loop-place
invariant-loop-place l = (l.place ≤ length l.graph) × AreGrouped l.graph l.place l.vertices (map (λ s. s.items) l.places.items)

abbrev pub decreases-loop-place : goal.decreases-loop-place
decreases-loop-place l = l.place
