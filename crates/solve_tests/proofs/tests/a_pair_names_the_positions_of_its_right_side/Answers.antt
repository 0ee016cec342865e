use Rattle.std.proofs.Common.{ap}
use Rattle.solve_theory.specs.Pair.{PairState}
use Rattle.solve_equality.specs.Equality.{Equalities, is_classes, meets_literal}
use Rattle.solve_equality.specs.EmptyClasses.{empty_has_classes}
use Rattle.solve_theory.proofs.PairModels.{HasModel-no_sides}
use Rattle.solve_tests.proofs.tests.a_pair_names_the_positions_of_its_right_side.Goals as goal

pub has_core-requires-clause-has_model : goal.has_core-requires-clause-has_model
has_core-requires-clause-has_model g c =
    let l = c.in_ok-pair.pair.left in
    let r = c.in_ok-pair.pair.right in
    HasModel-no_sides (is_classes l.terms l.fixed) meets_literal l.literals (is_classes r.terms r.fixed) meets_literal r.literals c.in_ok-pair.pair.sides (ap (λ (s : PairState Equalities Equalities). s.sides) c.in_ok-pair.ensures) (empty_has_classes l.terms l.fixed) (empty_has_classes r.terms r.fixed)
