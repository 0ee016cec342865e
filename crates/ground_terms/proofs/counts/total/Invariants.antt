use Rattle.std.proofs.Common.{take}
use Rattle.form_terms.specs.Counts.{sum_of}
use Rattle.ground_terms.specs.Counting.{IsAlike}
use Rattle.ground_terms.proofs.counts.total.Given as goal

abbrev pub invariant-loop-count : goal.invariant-loop-count
invariant-loop-count l = IsAlike l.sum (sum_of (take l.count-index l.counts))
