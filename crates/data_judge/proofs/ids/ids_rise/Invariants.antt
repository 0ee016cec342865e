use Rattle.std.proofs.Common.{drop}
use Rattle.data_judge.specs.InOrder.{IdsRiseFrom}
use Rattle.data_judge.proofs.ids.ids_rise.Given as goal

-- the items rise where those that are left do
abbrev pub invariant-loop-l : goal.invariant-loop-l
invariant-loop-l l = IdsRiseFrom l.least (drop l.l-index l.items) → IdsRiseFrom 0 l.items
