use Rattle.std.proofs.Common.{map}
use Rattle.ground_terms.specs.Nodes.{term_of}
use Rattle.ground_problem.proofs.TermLaws.{IsDown}
use Rattle.ground_problem.proofs.terms.push_arguments.Given as goal

abbrev pub invariant-down : goal.invariant-down
invariant-down l =
    IsDown l.source.arena.now l.source.terms.now (term_of l.source.terms.now l.id) l.list l.at (map (λ c. c.items) l.initial.clauses.items) (map (λ c. c.items) l.clauses.items)

abbrev pub decreases-down : goal.decreases-down
decreases-down l = l.at
