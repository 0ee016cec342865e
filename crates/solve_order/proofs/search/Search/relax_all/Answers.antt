use Rattle.solve_order.proofs.SearchLemmas.{Lowers-trans, MeetsListedFrom-kept}
use Rattle.solve_order.proofs.search.Search.relax_all.Goals as goal

pub returns-then-relax_range-clause-lowers : goal.returns-then-relax_range-clause-lowers
returns-then-relax_range-clause-lowers c = Lowers-trans _ _ _ c.in_default.ensures.lowers c.if-relax_range.ensures.lowers

pub returns-clause-lowers : goal.returns-clause-lowers
returns-clause-lowers c = Lowers-trans _ _ _ c.in_default.ensures.lowers c.if-relax_range.ensures.lowers

pub returns-clause-listed_met : goal.returns-clause-listed_met
returns-clause-listed_met c =
    let s = c.args.self.now in
    MeetsListedFrom-kept s.edges.now.literals s.values.now s.goal c.relax_listed.new.frontier c.relax_range.new.frontier 0 c.args.from c.if-relax_range.ensures.lowers c.in_default.ensures.relaxing.front.settled c.in_default.ensures.met
