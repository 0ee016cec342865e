use Rattle.ground_terms.proofs.Codes.{have_at}
use Rattle.ground_terms.proofs.needed.mark_parts.Goals as goal

pub mark_part-requires : goal.mark_part-requires
mark_part-requires c = have_at c.args.arena.now c.args.parts.now c.loop-part.part-index c.part-item.result c.requires c.loop-part-test.true c.part-item.is
