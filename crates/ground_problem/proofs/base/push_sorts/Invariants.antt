use Rattle.std.proofs.Common.{map, take}
use Rattle.std.specs.List.{flat_map}
use Rattle.ground_terms.specs.Standing.{terms_at}
use Rattle.form_tables.specs.Clauses.{sort_clauses}
use Rattle.ground_problem.specs.Facts.{AreAdded}
use Rattle.ground_problem.proofs.base.push_sorts.Given as goal

abbrev pub invariant-loop-id : goal.invariant-loop-id
invariant-loop-id l =
    AreAdded l.source.arena.now l.source.terms.now (map (λ c. c.items) l.initial.clauses.items) (map (λ c. c.items) l.clauses.items)
    (flat_map (sort_clauses l.source.signature.now) (terms_at l.source.terms.now (take l.id-index l.ids)))
