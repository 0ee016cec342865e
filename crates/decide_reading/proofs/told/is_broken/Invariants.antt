use Rattle.std.proofs.Common.{take, All}
use Rattle.decide_reading.specs.Broken.{IsFalse}
use Rattle.decide_reading.proofs.told.is_broken.Given as goal

abbrev pub invariant-loop-literal : goal.invariant-loop-literal
invariant-loop-literal l = All (IsFalse l.source.terms.now l.source.found.now l.pairs) (take l.literal-index l.clause)
