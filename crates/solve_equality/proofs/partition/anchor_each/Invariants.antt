use Rattle.std.proofs.Common.{◌≡◌, ℕ, ◌<◌, length, get_or, take, Some, None, cond}
use Rattle.solve_equality.specs.Partition.{is_fixed}
use Rattle.solve_equality.proofs.partition.anchor_each.Given as goal

-- the terms passed so far are anchors
abbrev pub invariant-loop-term : goal.invariant-loop-term
invariant-loop-term l =
    (t : ℕ) → t < length l.anchors → get_or l.anchors t None ≡ cond (is_fixed (take l.term-index l.fixed) t) (Some t) None
