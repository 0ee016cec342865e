use Rattle.std.proofs.Common.{◌≡◌, ◌<◌, length}
use Rattle.solve_order.specs.Reach.{lowered_at, IsAlmostHeapAbove, KeepsBeyond}
use Rattle.solve_order.proofs.frontier.sift_up.Given as goal

abbrev pub invariant-loop-at : goal.invariant-loop-at
invariant-loop-at l =
    (l.at < l.waiting) × (IsAlmostHeapAbove (lowered_at l.reached l.order.items.items) l.waiting l.at) × (KeepsBeyond l.waiting l.initial.order.places.items l.order.places.items) × (length l.order.items.items ≡ length l.initial.order.items.items)

abbrev pub decreases-loop-at : goal.decreases-loop-at
decreases-loop-at l = l.at
