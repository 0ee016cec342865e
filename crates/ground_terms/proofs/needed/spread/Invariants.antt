use Rattle.std.proofs.Common.{take}
use Rattle.ground_terms.specs.Needed.{AreSpread}
use Rattle.ground_terms.proofs.needed.spread.Given as goal

abbrev pub invariant-loop-fun : goal.invariant-loop-fun
invariant-loop-fun l = AreSpread (take l.fun-index l.funs) l.from l.initial.marks l.marks
