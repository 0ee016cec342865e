use Rattle.ground_terms.proofs.Standing.{ones_kept}
use Rattle.ground_terms.proofs.AppliedTerms.{skolem_part_listed}
use Rattle.ground_terms.proofs.round.list_parts.Goals as goal

pub list_part-requires : goal.list_part-requires
list_part-requires c = ones_kept c.args.terms.now c.loop-part.terms c.args.current.now c.loop-part.invariant.kept c.requires

pub loop-part-preserved : goal.loop-part-preserved
loop-part-preserved c =
    skolem_part_listed c.args.signature.now c.args.current.now c.args.parts.now c.loop-part.part-index c.part-item.result _ c.loop-part.terms _ _ _ _ c.requires c.loop-part-test.true
    c.part-item.is c.loop-part.invariant c.in_ok-list_part.ensures
