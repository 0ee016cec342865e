use Rattle.solve_equality.specs.Visits.{MarkedFrom}
use Rattle.solve_equality.proofs.visits.unmark.Given as goal

abbrev pub invariant-loop-visit : goal.invariant-loop-visit
invariant-loop-visit l = MarkedFrom l.visits l.seen l.visit-index
