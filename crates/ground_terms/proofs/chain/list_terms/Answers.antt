use Rattle.ground_terms.specs.Codes.{code_terms}
use Rattle.ground_terms.proofs.Codes.{have_at}
use Rattle.ground_terms.proofs.Standing.{part_listed}
use Rattle.ground_terms.proofs.chain.list_terms.Goals as goal

pub list_terms_of-requires : goal.list_terms_of-requires
list_terms_of-requires c = have_at c.args.arena.now c.args.parts.now c.loop-part.part-index c.part-item.result c.requires c.loop-part-test.true c.part-item.is

pub loop-part-preserved : goal.loop-part-preserved
loop-part-preserved c =
    part_listed (code_terms c.args.signature.now c.args.arena.now) c.args.parts.now c.loop-part.part-index c.part-item.result _ _ _ _ _ _ c.loop-part-test.true c.part-item.is c.loop-part.invariant
    c.in_ok-list_terms_of.ensures
