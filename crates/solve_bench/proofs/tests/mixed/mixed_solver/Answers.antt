use Rattle.std.proofs.Common.{◌≡◌, ◌∙◌, All, ap, sym, subst}
use Rattle.solve_equality.specs.Equality.{Equalities, takes_literal}
use Rattle.solve_theory.specs.Pair.{PairState, takes_own}
use Rattle.solve_order.specs.Difference.{Constraints, is_literal}
use Rattle.solve_solver.specs.ContextView.{IsTaken}
use Rattle.solve_bench.proofs.tests.mixed.mixed_solver.Goals as goal

pub new-requires-4-clause-taken : goal.new-requires-4-clause-taken
new-requires-4-clause-taken g c =
    let theory = c.in_ok-theory.theory in
    let numbers = c.in_ok-numbers.numbers in
    let same : takes_own (takes_literal theory.left.terms) (is_literal theory.right.variables) ≡ takes_own (takes_literal 3) (is_literal 3) =
    ap (λ (p : PairState Equalities Constraints). takes_own (takes_literal p.left.terms) (is_literal p.right.variables)) c.in_ok-theory.ensures
    ∙ ap (λ (t : Equalities). takes_own (takes_literal t.terms) (is_literal numbers.variables)) c.in_ok-terms.ensures
    ∙ ap (λ (n : Constraints). takes_own (takes_literal 3) (is_literal n.variables)) c.in_ok-numbers.ensures in
    subst (λ takes. All (IsTaken takes) c.in_ok-atoms.atoms.items) (sym same) c.in_ok-atoms.ensures.taken
