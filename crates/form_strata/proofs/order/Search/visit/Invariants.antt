use Rattle.std.proofs.Common.{◌≢◌, ℕ, length}
use Rattle.form_strata.specs.declared.order.Mark.TheVariants.{Unseen}
use Rattle.form_strata.specs.Search.{mark_at, IsSearch, work}
use Rattle.form_strata.proofs.order.Search.visit.Given as goal

abbrev pub invariant-steps : goal.invariant-steps
invariant-steps l =
    IsSearch l.graph (length l.initial.self.marks.items) l.self
    × ((v : ℕ) → mark_at l.initial.self.marks.items v ≢ Unseen → mark_at l.self.marks.items v ≢ Unseen)

abbrev pub decreases-steps : goal.decreases-steps
decreases-steps l = work l.self
