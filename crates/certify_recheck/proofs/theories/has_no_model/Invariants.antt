-- What the literals so far say is asserted, and has a model.
use Rattle.std.proofs.Common.{◌-◌, length}
use Rattle.certify_recheck.specs.Walking.{IsReady}
use Rattle.certify_recheck.proofs.theories.has_no_model.Given as goal

abbrev pub invariant-loop-told : goal.invariant-loop-told
invariant-loop-told g l = let T = g.T.Theory in IsReady (g.C.Clauses.problem l.c) l.path l.told.count (T.literals l.told.theory) (T.capacity l.told.theory) (T.takes l.told.theory) (T.models l.told.theory) T.meets

abbrev pub decreases-loop-told : goal.decreases-loop-told
decreases-loop-told g l = length l.path - l.told.count
