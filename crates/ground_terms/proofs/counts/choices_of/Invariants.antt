use Rattle.std.proofs.Common.{map, take}
use Rattle.form_terms.specs.Counts.{product_of}
use Rattle.ground_terms.specs.Counting.{IsAlike, count_in}
use Rattle.ground_terms.proofs.counts.choices_of.Given as goal

abbrev pub invariant-loop-sort : goal.invariant-loop-sort
invariant-loop-sort l = IsAlike l.choices (product_of (map (count_in l.counts) (take l.sort-index l.sorts)))
