use Rattle.std.proofs.Common.{arith}
use Rattle.solve_equality.proofs.VisitsLemmas.{has_room, IsSoundVisits-push}
use Rattle.solve_equality.proofs.visits.Visits.add.Goals as goal

pub push_within-requires : goal.push_within-requires
push_within-requires c =
    let inside = c.self.inside in
    let room = has_room inside.list.items inside.seen.items _ c.args.visit c.self.invariant (rw (← c.self.view_is) at c.requires.within) (rw (← c.self.view_is) at c.requires.is_new) in
    omega (arith, inside.list.ok.0)

pub invariant_of-self : goal.invariant_of-self
invariant_of-self c =
    let inside = c.self.inside in
    rw c.push_within.ensures.items
    (IsSoundVisits-push inside.list.items inside.seen.items _ c.args.visit c.self.invariant (rw (← c.self.view_is) at c.requires.within) (rw (← c.self.view_is) at c.requires.is_new)
    _ c.push_within.ensures.capacity)
