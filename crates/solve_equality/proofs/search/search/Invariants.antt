use Rattle.std.proofs.Common.{◌≡◌, ℕ, ◌-◌, ◌<◌, ◌≤◌, length}
use Rattle.solve_equality.specs.Visits.{visit_at}
use Rattle.solve_equality.specs.Search.{IsTree, AroundIsVisited}
use Rattle.solve_equality.proofs.search.search.Given as goal

-- the visits before the place have all their edges done
abbrev pub invariant-loop-place : goal.invariant-loop-place
invariant-loop-place l = let pairs = l.edges.pairs in let visits = l.visits.visits in record {
  terms : l.visits.terms ≡ l.initial.visits.terms;
  begins : 0 < length visits;
  starts : (visit_at visits 0).term ≡ l.start;
  tree : IsTree pairs visits;
  within : l.place ≤ length visits;
  done : (j : ℕ) → j < l.place → AroundIsVisited pairs visits (visit_at visits j).term;
}

abbrev pub decreases-loop-place : goal.decreases-loop-place
decreases-loop-place l = l.visits.terms - l.place
