use Rattle.std.proofs.Common.{◌≡◌, ℕ, ◌<◌, length, slice_index}
use Rattle.solve_order.proofs.permutation.in_turn.Given as goal

abbrev pub invariant-loop-k : goal.invariant-loop-k
invariant-loop-k l =
    (length l.numbers.items ≡ l.k) × ((k : ℕ) → k < l.k → slice_index l.numbers.items k ≡ k)
