use Rattle.std.proofs.Common.{◌≢◌, ℕ, ◌<◌, length}
use Rattle.solve_equality.specs.Visits.{visit_at}
use Rattle.solve_equality.specs.Edges.{pair_at, Joins}
use Rattle.solve_equality.specs.Partition.{class_at}
use Rattle.solve_equality.proofs.clash.find_clash.Given as goal

-- no edge at a member passed so far leads into the class
abbrev pub invariant-loop-place : goal.invariant-loop-place
invariant-loop-place l =
    (j k s : ℕ) → j < l.place → k < length l.gaps.pairs → Joins (pair_at l.gaps.pairs k) s (visit_at l.members.visits j).term → class_at l.parts s ≢ l.into
