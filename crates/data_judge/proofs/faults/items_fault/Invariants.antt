use Rattle.std.proofs.Common.{◌≡◌, drop}
use Rattle.data_judge.specs.Faults as spec
use Rattle.data_judge.specs.First.{first_behind}
use Rattle.data_judge.specs.Meaning.{with_item}
use Rattle.data_judge.proofs.faults.items_fault.Given as goal

abbrev pub invariant-loop-l : goal.invariant-loop-l
invariant-loop-l l = spec.items_fault l.items ≡ first_behind spec.item_fault with_item l.seen (drop l.l-index l.items)
