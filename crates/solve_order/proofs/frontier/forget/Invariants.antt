use Rattle.std.proofs.Common.{◌≡◌, ◌≢◌, ℕ, ◌<◌, length, slice_index}
use Rattle.solve_order.specs.Reach.{unreached, reach_of}
use Rattle.solve_order.proofs.frontier.forget.Given as goal

abbrev pub invariant-loop-i : goal.invariant-loop-i
invariant-loop-i l =
    (length l.reached.items ≡ length l.initial.reached.items) × ((i : ℕ) → i < l.i → reach_of l.reached.items (slice_index l.order.items.items i) ≡ unreached) × ((v : ℕ) → ((i : ℕ) → i < l.i → slice_index l.order.items.items i ≢ v) → reach_of l.reached.items v ≡ reach_of l.initial.reached.items v)
