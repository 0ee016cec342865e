use Rattle.std.proofs.Common.{map, take}
use Rattle.std.specs.List.{flat_map}
use Rattle.ground_terms.specs.Standing.{terms_at}
use Rattle.form_tables.specs.Clauses.{element_clauses}
use Rattle.ground_problem.specs.Facts.{AreAdded}
use Rattle.ground_problem.proofs.congruences.push_elements.Given as goal

abbrev pub invariant-loop-x : goal.invariant-loop-x
invariant-loop-x l =
    AreAdded l.source.arena.now l.source.terms.now (map (λ c. c.items) l.initial.clauses.items) (map (λ c. c.items) l.clauses.items)
    (flat_map (λ t. flat_map (element_clauses l.source.signature.now t) (terms_at l.source.terms.now l.ids)) (terms_at l.source.terms.now (take l.x-index l.ids)))
