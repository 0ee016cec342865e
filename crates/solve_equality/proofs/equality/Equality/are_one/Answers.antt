use Rattle.std.proofs.Common.{◌<◌, subst, arith}
use Rattle.solve_equality.specs.Entries.{IsStanding}
use Rattle.solve_equality.proofs.ClassModels.{together_by}
use Rattle.solve_equality.proofs.EqualityState.{failure_if_none, parts_fit, standing_model}
use Rattle.solve_equality.proofs.equality.Equality.are_one.Goals as goal

pub class_of-requires : goal.class_of-requires
class_of-requires c =
    let e = c.self.inside in
    let fits = parts_fit e.entries.items e.entries.cap e.limit e.links.terms e.fixed.items e.links e.gaps e.parts e.visits e.failure c.self.invariant in
    let left_in : c.args.left < e.links.terms = rw (← c.self.view_is) at c.requires.left_in in
    omega (arith, fits.0, left_in)

pub class_of-requires-2 : goal.class_of-requires-2
class_of-requires-2 c =
    let e = c.self.inside in
    let fits = parts_fit e.entries.items e.entries.cap e.limit e.links.terms e.fixed.items e.links e.gaps e.parts e.visits e.failure c.self.invariant in
    let right_in : c.args.right < e.links.terms = rw (← c.self.view_is) at c.requires.right_in in
    omega (arith, fits.0, right_in)

pub returns : goal.returns
returns c =
    let e = c.self.inside in
    let fits = parts_fit e.entries.items e.entries.cap e.limit e.links.terms e.fixed.items e.links e.gaps e.parts e.visits e.failure c.self.invariant in
    let left_in : c.args.left < e.links.terms = rw (← c.self.view_is) at c.requires.left_in in
    let right_in : c.args.right < e.links.terms = rw (← c.self.view_is) at c.requires.right_in in
    let none = failure_if_none e.entries.items e.entries.cap e.limit e.links.terms e.fixed.items e.links e.gaps e.parts e.visits e.failure c.self.invariant (rw (← c.self.view_is) at c.requires.has_model) in
    let settled = subst (IsStanding e.links.terms e.fixed.items e.entries.items) none c.self.invariant.standing in
    rw (← c.self.view_is, c.class_of.ensures, c.class_of-2.ensures)
    (record {
      model = e.parts.classes;
      fits = standing_model e.entries.items e.entries.cap e.limit e.links.terms e.fixed.items e.links e.gaps e.parts e.visits e.failure c.self.invariant settled;
      says = together_by e.parts.classes c.args.left c.args.right (omega (arith, fits.0, left_in)) (omega (arith, fits.0, right_in));
    })
