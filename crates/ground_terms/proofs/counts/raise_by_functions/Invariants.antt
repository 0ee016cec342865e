use Rattle.std.proofs.Common.{take}
use Rattle.ground_terms.specs.Counting.{AreRaised, count_in, functions_count}
use Rattle.ground_terms.proofs.counts.raise_by_functions.Given as goal

abbrev pub invariant-loop-h : goal.invariant-loop-h
invariant-loop-h l = AreRaised (functions_count (count_in l.counts) l.signature (take l.h-index l.functions)) l.initial.next l.next
