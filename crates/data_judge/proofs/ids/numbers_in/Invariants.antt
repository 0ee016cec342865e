use Rattle.std.proofs.Common.{◌≡◌, ◌++◌, drop}
use Rattle.data_judge.specs.InOrder.{numbers_in}
use Rattle.data_judge.proofs.ids.numbers_in.Given as goal

abbrev pub invariant-loop-l : goal.invariant-loop-l
invariant-loop-l l = numbers_in l.items ≡ l.numbers.items ++ numbers_in (drop l.l-index l.items)
