use Rattle.std.proofs.Common.{sym, subst}
use Rattle.solve_equality.specs.Equality.{Equalities}
use Rattle.solve_order.specs.Difference.{Constraints}
use Rattle.solve_theory.specs.Pair.{PairState}
use Rattle.decide_search.specs.Mixed.{AreTaken}
use Rattle.decide_search.proofs.mixture.search_mixed.Goals as goal

pub with_clauses-requires-clause-taken : goal.with_clauses-requires-clause-taken
with_clauses-requires-clause-taken c =
    let P : PairState Equalities Constraints → Type 0 = λ p. AreTaken p.left.terms p.right.variables c.args.atoms in subst P (sym c.in_ok-theory.ensures) c.requires.taken
