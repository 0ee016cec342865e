use Rattle.std.proofs.Common.{drop}
use Rattle.data_judge.specs.InOrder.{NumbersRiseFrom}
use Rattle.data_judge.proofs.ids.rise.Given as goal

-- the numbers rise where those that are left do
abbrev pub invariant-loop-number : goal.invariant-loop-number
invariant-loop-number l = NumbersRiseFrom l.least (drop l.number-index l.numbers) → NumbersRiseFrom 0 l.numbers
