use Rattle.ground_terms.specs.Codes.{code_names}
use Rattle.ground_terms.proofs.Standing.{part_listed}
use Rattle.ground_terms.proofs.chain.list_names.Goals as goal

pub loop-part-preserved : goal.loop-part-preserved
loop-part-preserved c =
    part_listed code_names c.args.parts.now c.loop-part.part-index c.part-item.result _ _ _ _ _ _ c.loop-part-test.true c.part-item.is c.loop-part.invariant c.in_ok-list_name_of.ensures
