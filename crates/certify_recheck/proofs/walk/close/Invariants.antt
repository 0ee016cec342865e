-- What was taken back left nothing for later.
use Rattle.std.proofs.Common.{◌≡◌, length}
use Rattle.certify_clauses.specs.Paths.{pending}
use Rattle.certify_recheck.specs.Walking.{IsReady}
use Rattle.certify_recheck.proofs.walk.close.Given as goal

abbrev pub invariant-loop-last : goal.invariant-loop-last
invariant-loop-last g l = let T = g.T.Theory in record {
  vars : l.path.vars ≡ l.initial.path.vars;
  left : pending l.initial.path.literals ≡ pending l.path.literals;
  ready : IsReady (g.C.Clauses.problem l.c) l.path.literals l.told.count (T.literals l.told.theory) (T.capacity l.told.theory) (T.takes l.told.theory) (T.models l.told.theory) T.meets;
}

abbrev pub decreases-loop-last : goal.decreases-loop-last
decreases-loop-last g l = length l.path.literals
