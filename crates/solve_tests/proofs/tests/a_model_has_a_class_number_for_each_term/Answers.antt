use Rattle.std.proofs.Common.{ap}
use Rattle.solve_equality.specs.Equality.{Equalities}
use Rattle.solve_equality.proofs.EqualityState.{HasModel-empty}
use Rattle.solve_tests.proofs.tests.a_model_has_a_class_number_for_each_term.Goals as goal

pub assert-requires-clause-has_model : goal.assert-requires-clause-has_model
assert-requires-clause-has_model g c = HasModel-empty c.in_ok-equality.equality (ap (λ (e : Equalities). e.literals) c.in_ok-equality.ensures)
