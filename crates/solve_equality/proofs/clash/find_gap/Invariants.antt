use Rattle.std.proofs.Common.{◌≡◌, ◌≢◌, ℕ, ◌<◌, true, IfSome, length}
use Rattle.solve_equality.specs.Edges.{pair_at, mentions, Joins}
use Rattle.solve_equality.specs.Partition.{class_at}
use Rattle.solve_equality.proofs.SearchLemmas.{IsPast, ahead}
use Rattle.solve_equality.proofs.clash.find_gap.Given as goal

-- no edge that is newer than the next one leads into the class
abbrev pub invariant-loop-next : goal.invariant-loop-next
invariant-loop-next l = let pairs = l.gaps.pairs in record {
  next_is : IfSome l.next (λ k. (k < length pairs) × (mentions l.term (pair_at pairs k) ≡ true));
  done : (k s : ℕ) → k < length pairs → IsPast l.next k → Joins (pair_at pairs k) s l.term → class_at l.parts s ≢ l.into;
}

abbrev pub decreases-loop-next : goal.decreases-loop-next
decreases-loop-next l = ahead l.next
