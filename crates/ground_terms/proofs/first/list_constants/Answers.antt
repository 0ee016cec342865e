use Rattle.ground_terms.specs.Codes.{is_marked}
use Rattle.ground_terms.proofs.Fewer.{constant_listed}
use Rattle.ground_terms.proofs.first.list_constants.Goals as goal

pub loop-sort-preserved : goal.loop-sort-preserved
loop-sort-preserved c = constant_listed (is_marked c.args.needed.now) c.loop-sort.sort _ _ _ _ _ _ c.loop-sort.invariant c.in_ok-list_constant.ensures
