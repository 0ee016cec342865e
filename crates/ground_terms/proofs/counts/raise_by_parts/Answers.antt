use Rattle.std.proofs.Common.{subst}
use Rattle.ground_terms.specs.declared.part.Part.{Part}
use Rattle.ground_terms.specs.Counting.{AreRaised, count_in, part_count}
use Rattle.ground_terms.proofs.CountRounds.{raised_next}
use Rattle.ground_terms.proofs.counts.raise_by_parts.Goals as goal

pub loop-part-preserved : goal.loop-part-preserved
loop-part-preserved c =
    let P : Part → Type 0 = λ p. AreRaised (λ s. part_count (count_in c.args.counts.now) s p) c.loop-part.next c.raise_by_part.new.next in
    raised_next (λ p s. part_count (count_in c.args.counts.now) s p) c.args.parts.now c.loop-part.part-index c.part-item.result _ _ _ c.loop-part-test.true c.loop-part.invariant
    (subst P c.part-item.is c.raise_by_part.ensures)
