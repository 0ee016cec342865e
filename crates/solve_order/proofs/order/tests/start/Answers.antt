use Rattle.std.proofs.Common.{◌≡◌, [], sym, subst}
use Rattle.std.proofs.lemmas.Result.{IfOk-weaker}
use Rattle.solve_theory.specs.Models.{HasModel}
use Rattle.solve_order.specs.Difference.{Constraints, is_assignment, meets}
use Rattle.solve_order.specs.Zero.{zero_is_model}
use Rattle.solve_order.proofs.order.tests.start.Goals as goal

pub returns-clause-has_model : goal.returns-clause-has_model
returns-clause-has_model c =
    IfOk-weaker c.new.result (λ o. o ≡ record { variables = 4; capacity = 6; literals = [] }) (λ (o : Constraints). HasModel (is_assignment o.variables) meets o.literals)
    (λ o e. subst (λ (o : Constraints). HasModel (is_assignment o.variables) meets o.literals) (sym e) (zero_is_model 4)) c.new.ensures
