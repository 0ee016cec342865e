use Rattle.std.proofs.Common.{◌≤◌, false, length, sym, subst}
use Rattle.solve_order.specs.Difference.{Constraints}
use Rattle.solve_order.specs.Order.{IsOrder}
use Rattle.solve_order.proofs.StateLemmas.{IsOrder-cut}
use Rattle.solve_order.proofs.order.OrderTheory.undo.Goals as goal

pub invariant_of-self : goal.invariant_of-self
invariant_of-self c =
    let s = c.self.inside in
    let within = subst (λ (e : Constraints). c.args.n ≤ length e.literals) (sym c.self.view_is) c.requires in
    subst (λ e. IsOrder e s.values.items s.frontier s.core false) (sym c.cut.ensures) (IsOrder-cut s.edges s.values.items s.frontier s.core s.refuted c.args.n c.self.invariant c.if-n-gt0.true within)
