use Rattle.std.proofs.Common.{◌≡◌, ℕ, ◌<◌, ◌≤◌, length, pos, slice_index}
use Rattle.solve_order.specs.Difference.{value_of}
use Rattle.solve_order.specs.Lowering.{moved_value}
use Rattle.solve_order.proofs.lowering.move_reached.Given as goal

abbrev pub invariant-loop-place : goal.invariant-loop-place
invariant-loop-place l =
    let old = l.initial.values.items in
    let new = l.values.items in
    (length new ≡ length old) × ((v : ℕ) → v < length old → slice_index l.order.places.items v < l.place → value_of new v ≡ moved_value old l.reached (pos 0) v) × ((v : ℕ) → v < length old → l.place ≤ slice_index l.order.places.items v → value_of new v ≡ value_of old v)
