use Rattle.std.proofs.Common.{ap}
use Rattle.solve_equality.specs.Equality.{Equalities}
use Rattle.solve_equality.proofs.EqualityState.{HasModel-empty}
use Rattle.solve_tests.proofs.tests.a_conflict_is_the_chain_between_two_terms.Goals as goal

pub has_core-requires-clause-has_model : goal.has_core-requires-clause-has_model
has_core-requires-clause-has_model g c = HasModel-empty c.in_ok-equality.equality (ap (λ (e : Equalities). e.literals) c.in_ok-equality.ensures)
