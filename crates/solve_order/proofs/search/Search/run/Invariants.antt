use Rattle.solve_order.specs.Search.{IsBetween, unsettled_count}
use Rattle.solve_order.proofs.search.Search.run.Given as goal

abbrev pub invariant-loop-from : goal.invariant-loop-from
invariant-loop-from l = IsBetween l.self.edges.now.literals l.self.values.now l.self.goal l.frontier

abbrev pub decreases-loop-from : goal.decreases-loop-from
decreases-loop-from l = unsettled_count l.frontier
