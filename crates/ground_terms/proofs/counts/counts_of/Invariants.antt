use Rattle.std.proofs.Common.{length}
use Rattle.ground_terms.specs.Applying.{of_sort_in}
use Rattle.ground_terms.specs.Counting.{AreCounts}
use Rattle.ground_terms.specs.Standing.{terms_at}
use Rattle.ground_terms.proofs.counts.counts_of.Given as goal

abbrev pub invariant-loop-sort : goal.invariant-loop-sort
invariant-loop-sort l = AreCounts l.sort (λ sort. length (of_sort_in l.signature (terms_at l.terms l.listed) sort)) l.counts.items
