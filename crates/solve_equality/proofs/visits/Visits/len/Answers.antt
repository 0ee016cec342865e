use Rattle.std.proofs.Common.{arith}
use Rattle.solve_equality.proofs.VisitsLemmas.{length-le_visits}
use Rattle.solve_equality.proofs.visits.Visits.len.Goals as goal

pub returns-clause-bound : goal.returns-clause-bound
returns-clause-bound c =
    let inside = c.self.inside in
    rw (← c.self.view_is) (omega (arith, inside.list.ok.0, length-le_visits inside.list.items inside.seen.items _ c.self.invariant))
