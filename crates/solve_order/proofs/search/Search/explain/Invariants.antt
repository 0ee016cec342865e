use Rattle.std.proofs.Common.{◌≡◌}
use Rattle.solve_order.specs.Reach.{reach_of}
use Rattle.solve_order.specs.Conflict.{IsPath}
use Rattle.solve_order.proofs.search.Search.explain.Given as goal

abbrev pub invariant-loop-v : goal.invariant-loop-v
invariant-loop-v l =
    (IsPath l.self.edges.now.literals l.self.values.now l.self.goal l.frontier l.v l.positions.items) × (l.positions.capacity ≡ l.initial.positions.capacity)

abbrev pub decreases-loop-v : goal.decreases-loop-v
decreases-loop-v l = (reach_of l.frontier l.v).rank
