use Rattle.std.proofs.Common.{◌≡◌, ℕ, [], map, length}
use Rattle.form_strata.specs.Places.{places_at}
use Rattle.form_strata.proofs.places.no_places.Given as goal

abbrev pub invariant-loop : goal.invariant-loop
invariant-loop l = (length l.places.items ≡ l.counter) × ((v : ℕ) → places_at (map (λ s. s.items) l.places.items) v ≡ [])
