use Rattle.ground_terms.proofs.Standing.{one_kept, one_at, lists_kept}
use Rattle.ground_terms.proofs.AppliedTerms.{each_listed}
use Rattle.ground_terms.proofs.round.list_each.Goals as goal

pub list_with-requires-clause-one : goal.list_with-requires-clause-one
list_with-requires-clause-one c =
    one_kept c.args.terms.now c.loop-first.terms _ c.loop-first.invariant.kept (one_at c.args.terms.now c.args.firsts.now c.loop-first.first-index 0 c.requires.ones c.loop-first-test.true)

pub list_with-requires-clause-lists : goal.list_with-requires-clause-lists
list_with-requires-clause-lists c = lists_kept c.args.terms.now c.loop-first.terms c.args.rests.now c.loop-first.invariant.kept c.requires.lists

pub loop-first-preserved : goal.loop-first-preserved
loop-first-preserved c =
    each_listed c.args.firsts.now c.args.rests.now c.loop-first.first-index _ c.loop-first.terms _ _ _ _ c.requires.ones c.requires.lists c.loop-first-test.true c.loop-first.invariant
    c.in_ok-list_with.ensures
