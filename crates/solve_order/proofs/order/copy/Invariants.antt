use Rattle.std.proofs.Common.{◌≡◌, take}
use Rattle.solve_order.proofs.order.copy.Given as goal

abbrev pub invariant-loop-position : goal.invariant-loop-position
invariant-loop-position l =
    (l.to.items ≡ take l.position-index l.from.items) × (l.to.capacity ≡ l.initial.to.capacity)
