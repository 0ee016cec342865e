use Rattle.std.proofs.Common.{◌≡◌}
use Rattle.solve_theory.specs.Models.{HasModel}
use Rattle.solve_order.specs.Difference.{is_assignment, meets, is_literal}
use Rattle.solve_order.proofs.order.tests.ask_each.Given as goal

abbrev pub invariant-loop-x : goal.invariant-loop-x
invariant-loop-x l =
    (HasModel (is_assignment l.order.variables) meets l.order.literals) × (is_literal l.order.variables ≡ is_literal 4) × (l.order.capacity ≡ 6) × (l.core.capacity ≡ 6)
