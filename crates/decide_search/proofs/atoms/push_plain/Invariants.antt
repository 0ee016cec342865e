use Rattle.std.proofs.Common.{◌≡◌, ◌++◌, None, replicate}
use Rattle.decide_search.proofs.atoms.push_plain.Given as goal

abbrev pub invariant-loop-done : goal.invariant-loop-done
invariant-loop-done l = l.atoms ≡ l.initial.atoms ++ replicate l._done None
