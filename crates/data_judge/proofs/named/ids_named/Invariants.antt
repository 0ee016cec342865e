use Rattle.std.proofs.Common.{◌≡◌, drop, []}
use Rattle.data_judge.specs.Named as spec
use Rattle.data_judge.proofs.named.ids_named.Given as goal

abbrev pub invariant-loop-l : goal.invariant-loop-l
invariant-loop-l l = spec.ids_named l.own [] l.items ≡ spec.ids_named l.own l.seen (drop l.l-index l.items)
