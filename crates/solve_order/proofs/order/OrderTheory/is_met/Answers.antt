use Rattle.std.proofs.Common.{sym, ap, ◌∙◌, subst}
use Rattle.solve_theory.specs.Models.{HasModel, IsModelOf}
use Rattle.solve_order.specs.Difference.{Constraints, is_assignment, meets}
use Rattle.solve_order.proofs.ModelLemmas.{IsModelOf-potential}
use Rattle.solve_order.proofs.StateLemmas.{not_refuted, potential_of_all}
use Rattle.solve_order.proofs.order.OrderTheory.is_met.Goals as goal

pub returns : goal.returns
returns c =
    let s = c.self.inside in
    let has = subst (λ (e : Constraints). HasModel (is_assignment e.variables) meets e.literals) (sym c.self.view_is) c.requires.has_model in
    let refuted = not_refuted s.edges s.values.items s.frontier s.core s.refuted c.self.invariant has in
    let potential = potential_of_all s.edges s.values.items s.frontier s.core s.refuted c.self.invariant refuted in
    record {
      model = s.values.items;
      fits = subst (λ (e : Constraints). IsModelOf (is_assignment e.variables) meets e.literals s.values.items) c.self.view_is (IsModelOf-potential s.edges s.values.items potential);
      says = sym (c.is_met_by.ensures ∙ ap (λ values. meets values c.args.l) c.as_slice.ensures.value);
    }
