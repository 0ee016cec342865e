use Rattle.std.proofs.Common.{◌-◌, ◌<◌, ◌≤◌, ◌≡◌, length}
use Rattle.solve_order.specs.Edges.{literal_at}
use Rattle.solve_order.specs.Search.{IsRelaxing, Lowers, MeetsListedFrom}
use Rattle.solve_order.proofs.search.Search.relax_listed.Given as goal

abbrev pub invariant-loop-via : goal.invariant-loop-via
invariant-loop-via l =
    let literals = l.self.edges.now.literals in
    let values = l.self.values.now in
    (IsRelaxing literals values l.self.goal l.frontier l.from) × (Lowers l.initial.frontier l.frontier) × (MeetsListedFrom literals values l.frontier l.via l.from) × (l.via ≤ length literals) × (0 < l.via → (literal_at literals (l.via - 1)).y ≡ l.from)

abbrev pub decreases-loop-via : goal.decreases-loop-via
decreases-loop-via l = l.via
