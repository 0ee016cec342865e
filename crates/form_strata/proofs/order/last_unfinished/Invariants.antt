use Rattle.std.proofs.Common.{◌≡◌, ◌⊎◌, ◌<◌, ℕ, length}
use Rattle.std.specs.Prelude.{All, Contains, vec_len}
use Rattle.form_strata.specs.declared.order.Mark.TheVariants.{Done}
use Rattle.form_strata.specs.Places.{edge_at}
use Rattle.form_strata.specs.Search.{mark_at}
use Rattle.form_strata.proofs.order.last_unfinished.Given as goal

abbrev pub invariant-loop-place : goal.invariant-loop-place
invariant-loop-place l =
    All (λ k. k < length l.graph) l.places.items × ((k : ℕ) → Contains l.places.items k → Contains l.initial.places.items k)
    × ((k : ℕ) → Contains l.initial.places.items k → (mark_at l.marks (edge_at l.graph k).0 ≡ Done) ⊎ Contains l.places.items k)

abbrev pub decreases-loop-place : goal.decreases-loop-place
decreases-loop-place l = vec_len l.places
