use Rattle.std.proofs.Common.{subst}
use Rattle.solve_equality.specs.Entries.{IsStanding}
use Rattle.solve_equality.proofs.EqualityState.{failure_if_none, standing_model}
use Rattle.solve_equality.proofs.equality.EqualityTheory.model.Goals as goal

pub returns : goal.returns
returns c =
    let e = c.self.inside in
    let none = failure_if_none e.entries.items e.entries.cap e.limit e.links.terms e.fixed.items e.links e.gaps e.parts e.visits e.failure c.self.invariant (rw (← c.self.view_is) at c.requires) in
    let settled = subst (IsStanding e.links.terms e.fixed.items e.entries.items) none c.self.invariant.standing in
    rw (← c.self.view_is, c.in_ok-classes.ensures, c.classes.ensures) (standing_model e.entries.items e.entries.cap e.limit e.links.terms e.fixed.items e.links e.gaps e.parts e.visits e.failure c.self.invariant settled)
