use Rattle.decide_search.proofs.Places.{values_more}
use Rattle.decide_search.proofs.mixture.values_of.Goals as goal

pub loop-var-preserved : goal.loop-var-preserved
loop-var-preserved g c = values_more c.args.solver.now.assignment c.loop-var.var c.value_of.result _ _ c.loop-var.invariant c.value_of.ensures c.in_ok-push.ensures.items
