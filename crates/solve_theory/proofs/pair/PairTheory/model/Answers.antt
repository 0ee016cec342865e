use Rattle.std.proofs.lemmas.Bool.{and_from}
use Rattle.std.proofs.Common.{IsTrue}
use Rattle.solve_theory.specs.Pair.{meets_own}
use Rattle.solve_theory.proofs.Sides.{all_in_order}
use Rattle.solve_theory.proofs.PairModels.{left_model, right_model}
use Rattle.solve_theory.proofs.pair.PairTheory.model.Goals as goal

pub model-requires : goal.model-requires
model-requires g c =
    let A = g.A.Theory in
    let B = g.B.Theory in
    let e = c.self.inside in
    left_model (A.models e.left) A.meets (B.models e.right) B.meets e.sides.items (A.literals e.left) (B.literals e.right) c.self.invariant.fit (rw (← c.self.view_is) at c.requires)

pub model-requires-2 : goal.model-requires-2
model-requires-2 g c =
    let A = g.A.Theory in
    let B = g.B.Theory in
    let e = c.self.inside in
    right_model (A.models e.left) A.meets (B.models e.right) B.meets e.sides.items (A.literals e.left) (B.literals e.right) c.self.invariant.fit (rw (← c.self.view_is) at c.requires)

pub returns : goal.returns
returns g c =
    let A = g.A.Theory in
    let B = g.B.Theory in
    let e = c.self.inside in
    let l = c.in_ok-left.left in
    let r = c.in_ok-right.right in
    rw (← c.self.view_is)
    (record {
      is_model = and_from (A.models e.left l) (B.models e.right r) c.in_ok-left.ensures.is_model c.in_ok-right.ensures.is_model;
      meets_each = all_in_order (λ x. IsTrue (meets_own A.meets B.meets (l, r) x)) e.sides.items (A.literals e.left) (B.literals e.right) c.in_ok-left.ensures.meets_each c.in_ok-right.ensures.meets_each;
    })
