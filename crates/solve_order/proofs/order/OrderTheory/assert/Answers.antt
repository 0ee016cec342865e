use Rattle.std.proofs.Common.{◌↔◌, not, IsTrue, sym, subst}
use Rattle.solve_theory.specs.Models.{HasModel}
use Rattle.solve_order.specs.Difference.{Constraints, is_assignment, meets}
use Rattle.solve_order.specs.Order.{IsOrder}
use Rattle.solve_order.proofs.StateLemmas.{not_refuted, potential_of_all, IsOrder-assert, verdict}
use Rattle.solve_order.proofs.order.OrderTheory.assert.Goals as goal

pub repair-repaired-requires-clause-potential : goal.repair-repaired-requires-clause-potential
repair-repaired-requires-clause-potential c =
    let s = c.self.inside in
    let has = subst (λ (e : Constraints). HasModel (is_assignment e.variables) meets e.literals) (sym c.self.view_is) c.requires.has_model in
    let refuted = not_refuted s.edges s.values.items s.frontier s.core s.refuted c.self.invariant has in
    potential_of_all s.edges s.values.items s.frontier s.core s.refuted c.self.invariant refuted

pub invariant_of-self : goal.invariant_of-self
invariant_of-self c =
    let s = c.self.inside in
    let has = subst (λ (e : Constraints). HasModel (is_assignment e.variables) meets e.literals) (sym c.self.view_is) c.requires.has_model in
    let refuted = not_refuted s.edges s.values.items s.frontier s.core s.refuted c.self.invariant has in
    let before = subst (IsOrder s.edges s.values.items s.frontier s.core) refuted c.self.invariant in
    let r = c.repair-repaired in
    subst (λ e. IsOrder e r.new.values.items r.new.frontier r.new.core (not r.result)) (sym c.push.ensures)
    (IsOrder-assert s.edges s.values.items s.frontier s.core c.args.l before r.new.values.items r.new.frontier r.new.core r.ensures.fresh r.ensures.capacity r.result r.ensures.potential r.ensures.stays r.ensures.conflict)

pub returns-clause-verdict : goal.returns-clause-verdict
returns-clause-verdict c =
    let s = c.self.inside in
    let has = subst (λ (e : Constraints). HasModel (is_assignment e.variables) meets e.literals) (sym c.self.view_is) c.requires.has_model in
    let refuted = not_refuted s.edges s.values.items s.frontier s.core s.refuted c.self.invariant has in
    let before = subst (IsOrder s.edges s.values.items s.frontier s.core) refuted c.self.invariant in
    let r = c.repair-repaired in
    subst (λ (e : Constraints). IsTrue r.result ↔ HasModel (is_assignment e.variables) meets e.literals) (sym c.push.ensures)
    (verdict s.edges s.values.items s.frontier s.core c.args.l before r.new.values.items r.new.frontier r.new.core r.ensures.fresh r.ensures.capacity r.result r.ensures.potential r.ensures.conflict)
