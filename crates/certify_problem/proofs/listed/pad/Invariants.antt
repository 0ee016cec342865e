use Rattle.std.proofs.Common.{◌≡◌, ◌-◌, ◌≤◌, ◌++◌, ℕ, None, length, replicate}
use Rattle.certify_problem.proofs.listed.pad.Given as goal

abbrev pub invariant-loop-atoms : goal.invariant-loop-atoms
invariant-loop-atoms l = record {
  gap : ℕ;
  whole : l.atoms.items ≡ l.initial.atoms.items ++ replicate gap None;
  within : length l.atoms.items ≤ l.count;
}

abbrev pub decreases-loop-atoms : goal.decreases-loop-atoms
decreases-loop-atoms l = l.count - length l.atoms.items
