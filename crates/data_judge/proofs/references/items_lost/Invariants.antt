use Rattle.std.proofs.Common.{◌≡◌, drop}
use Rattle.data_judge.specs.References as spec
use Rattle.data_judge.proofs.references.items_lost.Given as goal

abbrev pub invariant-loop-l : goal.invariant-loop-l
invariant-loop-l l = spec.items_lost l.database l.m l.items ≡ spec.items_lost l.database l.m (drop l.l-index l.items)
