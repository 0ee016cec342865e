use Rattle.std.proofs.Common.{◌≡◌, ◌≢◌, ℕ, ◌<◌, []}
use Rattle.form_strata.specs.declared.order.Mark.TheVariants.{Unseen}
use Rattle.form_strata.specs.Search.{mark_at, IsSearch}
use Rattle.form_strata.proofs.order.sort.Given as goal

abbrev pub invariant-loop-start : goal.invariant-loop-start
invariant-loop-start l =
    IsSearch l.graph l.vertices l.search × (l.search.path.items ≡ [])
    × ((v : ℕ) → v < l.start → mark_at l.search.marks.items v ≢ Unseen)
