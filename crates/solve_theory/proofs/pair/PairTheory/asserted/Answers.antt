use Rattle.std.proofs.Common.{◌∙◌, sym}
use Rattle.solve_theory.proofs.Sides.{length-in_order}
use Rattle.solve_theory.proofs.pair.PairTheory.asserted.Goals as goal

pub returns : goal.returns
returns g c =
    let e = c.self.inside in
    rw (← c.self.view_is) (c.len.ensures ∙ e.sides.ok.0 ∙ sym (length-in_order e.sides.items (g.A.Theory.literals e.left) (g.B.Theory.literals e.right) c.self.invariant.fit))
