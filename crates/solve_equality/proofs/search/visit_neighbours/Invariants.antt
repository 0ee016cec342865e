use Rattle.std.proofs.Common.{◌≡◌, ℕ, ◌<◌, true, IfSome, length}
use Rattle.solve_equality.specs.Edges.{pair_at, mentions}
use Rattle.solve_equality.specs.Search.{IsTree, Grows, AreVisited}
use Rattle.solve_equality.proofs.SearchLemmas.{IsPast, ahead}
use Rattle.solve_equality.proofs.search.visit_neighbours.Given as goal

-- the edges at the term that are newer than the next one are done
abbrev pub invariant-loop-next : goal.invariant-loop-next
invariant-loop-next l = let pairs = l.edges.pairs in record {
  terms : l.visits.terms ≡ l.initial.visits.terms;
  grows : Grows l.initial.visits.visits l.visits.visits;
  tree : IsTree pairs l.visits.visits;
  next_is : IfSome l.next (λ k. (k < length pairs) × (mentions l.term (pair_at pairs k) ≡ true));
  done : (k : ℕ) → k < length pairs → IsPast l.next k → mentions l.term (pair_at pairs k) ≡ true → AreVisited l.visits.visits (pair_at pairs k);
}

abbrev pub decreases-loop-next : goal.decreases-loop-next
decreases-loop-next l = ahead l.next
