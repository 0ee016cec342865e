use Rattle.ground_terms.specs.Standing.{terms_at}
use Rattle.ground_problem.proofs.TellingLaws.{IsLeft}
use Rattle.ground_problem.proofs.telling.Telling.has_arguments.Given as goal

abbrev pub invariant-loop-sort : goal.invariant-loop-sort
invariant-loop-sort l = IsLeft l.signature l.terms (terms_at l.terms l.self.named.items) l.sorts l.list l.at l.sort-index
