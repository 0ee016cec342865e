use Rattle.std.proofs.Common.{◌≡◌, ◌∙◌, sym, subst}
use Rattle.std.proofs.lemmas.Result.{IfOk-weaker}
use Rattle.solve_theory.specs.Models.{HasModel, IsModelOf}
use Rattle.solve_order.specs.Difference.{Constraints, is_assignment, meets}
use Rattle.solve_order.proofs.ModelLemmas.{IsModelOf-potential}
use Rattle.solve_order.proofs.StateLemmas.{not_refuted, potential_of_all}
use Rattle.solve_order.proofs.order.OrderTheory.model.Goals as goal

pub returns : goal.returns
returns c =
    let s = c.self.inside in
    let has = subst (λ (e : Constraints). HasModel (is_assignment e.variables) meets e.literals) (sym c.self.view_is) c.requires in
    let refuted = not_refuted s.edges s.values.items s.frontier s.core s.refuted c.self.invariant has in
    let potential = potential_of_all s.edges s.values.items s.frontier s.core s.refuted c.self.invariant refuted in
    let fits = subst (λ (e : Constraints). IsModelOf (is_assignment e.variables) meets e.literals s.values.items) c.self.view_is (IsModelOf-potential s.edges s.values.items potential) in
    IfOk-weaker c.from_slice.result (λ it. it ≡ c.as_slice.result.now) (IsModelOf (is_assignment c.args.self.now.variables) meets c.args.self.now.literals) (λ it e. subst (IsModelOf (is_assignment c.args.self.now.variables) meets c.args.self.now.literals) (sym (e ∙ c.as_slice.ensures.value)) fits) c.from_slice.ensures
