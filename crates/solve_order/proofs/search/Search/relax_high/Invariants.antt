use Rattle.solve_order.specs.Search.{IsRelaxing, Lowers, MeetsHighBelow}
use Rattle.solve_order.proofs.search.Search.relax_high.Given as goal

abbrev pub invariant-loop-to : goal.invariant-loop-to
invariant-loop-to l =
    let values = l.self.values.now in
    (IsRelaxing l.self.edges.now.literals values l.self.goal l.frontier 0) × (Lowers l.initial.frontier l.frontier) × (MeetsHighBelow l.to values l.frontier)
