use Rattle.std.proofs.Common.{ap}
use Rattle.solve_equality.specs.Equality.{Equalities}
use Rattle.solve_equality.proofs.EqualityState.{HasModel-empty}
use Rattle.solve_tests.proofs.tests.a_cycle_with_a_difference_is_refuted_through_the_bound.Goals as goal

pub has_core-requires-clause-has_model : goal.has_core-requires-clause-has_model
has_core-requires-clause-has_model g c = HasModel-empty c.in_ok-equality.equality (ap (λ (e : Equalities). e.literals) c.in_ok-equality.ensures)
