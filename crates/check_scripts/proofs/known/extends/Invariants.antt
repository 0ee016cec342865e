use Rattle.std.proofs.Common.{◌≡◌, take}
use Rattle.check_scripts.proofs.known.extends.Given as goal

abbrev pub invariant-loop-id : goal.invariant-loop-id
invariant-loop-id l = take l.id l.front ≡ take l.id l.whole
