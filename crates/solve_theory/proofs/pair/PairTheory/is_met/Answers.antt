use Rattle.std.proofs.Common.{IsTrue, ap, ◌∙◌}
use Rattle.std.proofs.lemmas.Bool.{and_from}
use Rattle.solve_theory.specs.Pair.{meets_own}
use Rattle.solve_theory.proofs.Sides.{all_in_order}
use Rattle.solve_theory.proofs.PairModels.{left_model, right_model}
use Rattle.solve_theory.proofs.pair.PairTheory.is_met.Goals as goal

pub is_met-requires-clause-has_model : goal.is_met-requires-clause-has_model
is_met-requires-clause-has_model g c =
    let A = g.A.Theory in
    let B = g.B.Theory in
    let e = c.self.inside in
    left_model (A.models e.left) A.meets (B.models e.right) B.meets e.sides.items (A.literals e.left) (B.literals e.right) c.self.invariant.fit (rw (← c.self.view_is) at c.requires.has_model)

pub is_met-requires-in-Right-clause-has_model : goal.is_met-requires-in-Right-clause-has_model
is_met-requires-in-Right-clause-has_model g c =
    let A = g.A.Theory in
    let B = g.B.Theory in
    let e = c.self.inside in
    right_model (A.models e.left) A.meets (B.models e.right) B.meets e.sides.items (A.literals e.left) (B.literals e.right) c.self.invariant.fit (rw (← c.self.view_is) at c.requires.has_model)

pub returns-in-Left : goal.returns-in-Left
returns-in-Left g c =
    let A = g.A.Theory in
    let B = g.B.Theory in
    let e = c.self.inside in
    let other = right_model (A.models e.left) A.meets (B.models e.right) B.meets e.sides.items (A.literals e.left) (B.literals e.right) c.self.invariant.fit (rw (← c.self.view_is) at c.requires.has_model) in
    let l = c.is_met.ensures.model in
    let r = other.model in
    rw (← c.self.view_is)
    (record {
      model = (l, r);
      fits = record {
        is_model = and_from (A.models e.left l) (B.models e.right r) c.is_met.ensures.fits.is_model other.fits.is_model;
        meets_each = all_in_order (λ x. IsTrue (meets_own A.meets B.meets (l, r) x)) e.sides.items (A.literals e.left) (B.literals e.right) c.is_met.ensures.fits.meets_each other.fits.meets_each;
      };
      says = ap (meets_own A.meets B.meets (l, r)) c.in-Left.is ∙ c.is_met.ensures.says;
    })

pub returns-in-Right : goal.returns-in-Right
returns-in-Right g c =
    let A = g.A.Theory in
    let B = g.B.Theory in
    let e = c.self.inside in
    let other = left_model (A.models e.left) A.meets (B.models e.right) B.meets e.sides.items (A.literals e.left) (B.literals e.right) c.self.invariant.fit (rw (← c.self.view_is) at c.requires.has_model) in
    let l = other.model in
    let r = c.is_met-in-Right.ensures.model in
    rw (← c.self.view_is)
    (record {
      model = (l, r);
      fits = record {
        is_model = and_from (A.models e.left l) (B.models e.right r) other.fits.is_model c.is_met-in-Right.ensures.fits.is_model;
        meets_each = all_in_order (λ x. IsTrue (meets_own A.meets B.meets (l, r) x)) e.sides.items (A.literals e.left) (B.literals e.right) other.fits.meets_each c.is_met-in-Right.ensures.fits.meets_each;
      };
      says = ap (meets_own A.meets B.meets (l, r)) c.in-Right.is ∙ c.is_met-in-Right.ensures.says;
    })
