use Rattle.std.proofs.Common.{[]}
use Rattle.form_formula.specs.Over.{IsOver}
use Rattle.form_formula.specs.Trees.{Formula}
use Rattle.form_terms.specs.Counts.{count_after}
use Rattle.ground_terms.specs.Basis.{IsBasis}
use Rattle.ground_terms.specs.Counting.{AreCounts}
use Rattle.ground_terms.proofs.counts.counts_within.Given as goal

abbrev pub invariant-rounds : goal.invariant-rounds
invariant-rounds l = (f : Formula) → IsOver l.signature [] f → IsBasis l.signature f l.basis → AreCounts l.signature.sorts (count_after l.signature f l.round) l.counts.items
