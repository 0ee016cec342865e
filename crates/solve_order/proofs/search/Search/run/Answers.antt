use Rattle.solve_order.proofs.SearchLemmas.{settle_step, IsBetween-relaxed}
use Rattle.solve_order.proofs.search.Search.run.Goals as goal

pub relax_all-requires-clause-relaxing : goal.relax_all-requires-clause-relaxing
relax_all-requires-clause-relaxing c =
    let s = c.args.self.now in
    settle_step s.edges.now.literals s.values.now s.goal c.loop-from.frontier c.settle.new.self c.in-Some.from c.loop-from.invariant c.in-Some.ensures.settled

pub loop-from-preserved : goal.loop-from-preserved
loop-from-preserved c =
    let s = c.args.self.now in
    let r = c.in_default-relax_all.ensures in
    IsBetween-relaxed s.edges.now.literals s.values.now s.goal c.loop-from.frontier c.settle.new.self c.in-Some.from c.loop-from.invariant c.in-Some.ensures.settled c.relax_all.new.frontier r.lowers r.relaxing r.listed_met r.range_met
