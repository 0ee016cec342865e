use Rattle.std.proofs.Common.{take}
use Rattle.ground_terms.specs.Counting.{AreRaised, count_in, parts_count}
use Rattle.ground_terms.proofs.counts.raise_by_parts.Given as goal

abbrev pub invariant-loop-part : goal.invariant-loop-part
invariant-loop-part l = AreRaised (parts_count (count_in l.counts) (take l.part-index l.parts)) l.initial.next l.next
