use Rattle.std.proofs.Common.{◌≡◌, None, replicate}
use Rattle.ground_gates.proofs.names.blank.Given as goal

abbrev pub invariant-loop-done : goal.invariant-loop-done
invariant-loop-done l = l.table.items ≡ replicate l._done None
