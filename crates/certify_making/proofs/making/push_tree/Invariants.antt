-- What is due at the path is what is left of the tree.
use Rattle.std.proofs.Common.{◌≡◌}
use Rattle.certify_recheck.specs.Due.{due_at}
use Rattle.certify_recheck.specs.Walking.{IsReady}
use Rattle.certify_making.specs.Following.{IsBegun, work}
use Rattle.certify_clauses.specs.InMemory.{problem_in}
use Rattle.certify_making.proofs.making.push_tree.Given as goal

abbrev pub invariant-lines : goal.invariant-lines
invariant-lines g l =
    let T = g.T.Theory in
    record {
      vars : l.path.vars ≡ l.initial.path.vars;
      ready : IsReady (problem_in l.c) l.path.literals l.told.count (T.literals l.told.theory) (T.capacity l.told.theory) (T.takes l.told.theory) (T.models l.told.theory) T.meets;
      begun : IsBegun (problem_in l.c) l.duty l.text.items (due_at (problem_in l.c) l.path.literals);
    }

abbrev pub decreases-lines : goal.decreases-lines
decreases-lines g l = work (problem_in l.c).vars (due_at (problem_in l.c) l.path.literals)
