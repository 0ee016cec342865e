use Rattle.std.proofs.Common.{◌≡◌, ◌≢◌, ◌<◌, length}
use Rattle.std.specs.List.{All, AllPairs}
use Rattle.solve_equality.specs.Visits.{visit_at}
use Rattle.solve_equality.specs.Search.{AreLinkedBy}
use Rattle.solve_equality.proofs.PathLemmas.{CameLater}
use Rattle.solve_equality.proofs.path.write_path.Given as goal

-- the path so far links the term at the place with the right one, by edges of later visits
abbrev pub invariant-loop-place : goal.invariant-loop-place
invariant-loop-place l = let visits = l.visits.visits in record {
  within : l.place < length visits;
  capacity : l.path.capacity ≡ l.initial.path.capacity;
  later : All (CameLater visits l.place) l.path.items;
  once : AllPairs (λ j k. j ≢ k) l.path.items;
  links : AreLinkedBy l.links.pairs l.path.items (visit_at visits l.place).term l.right;
}

abbrev pub decreases-loop-place : goal.decreases-loop-place
decreases-loop-place l = l.place
