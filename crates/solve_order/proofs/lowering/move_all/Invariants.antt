use Rattle.std.proofs.Common.{◌≡◌, ℕ, ◌<◌, ◌≤◌, length}
use Rattle.solve_order.specs.Difference.{value_of}
use Rattle.solve_order.specs.Lowering.{moved_value}
use Rattle.solve_order.proofs.lowering.move_all.Given as goal

abbrev pub invariant-loop-v : goal.invariant-loop-v
invariant-loop-v l =
    let old = l.initial.values.items in
    let new = l.values.items in
    (length new ≡ length old) × ((v : ℕ) → v < l.v → value_of new v ≡ moved_value old l.reached l.rise v) × ((v : ℕ) → l.v ≤ v → value_of new v ≡ value_of old v)
