use Rattle.std.proofs.Common.{map, take}
use Rattle.std.specs.List.{flat_map}
use Rattle.ground_terms.specs.Nodes.{term_of}
use Rattle.ground_terms.specs.Standing.{terms_at}
use Rattle.form_tables.specs.Clauses.{element_clauses}
use Rattle.ground_problem.specs.Facts.{AreAdded}
use Rattle.ground_problem.proofs.congruences.push_elements_of.Given as goal

abbrev pub invariant-loop-y : goal.invariant-loop-y
invariant-loop-y l =
    AreAdded l.source.arena.now l.source.terms.now (map (λ c. c.items) l.initial.clauses.items) (map (λ c. c.items) l.clauses.items)
    (flat_map (element_clauses l.source.signature.now (term_of l.source.terms.now l.x)) (terms_at l.source.terms.now (take l.y-index l.ids)))
