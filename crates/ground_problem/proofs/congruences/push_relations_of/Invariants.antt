use Rattle.std.proofs.Common.{map, take}
use Rattle.std.specs.List.{flat_map}
use Rattle.form_tables.specs.Clauses.{relation_clauses}
use Rattle.ground_problem.specs.Words.{pair_at}
use Rattle.ground_problem.specs.Facts.{AreAdded}
use Rattle.ground_problem.proofs.congruences.push_relations_of.Given as goal

abbrev pub invariant-loop-q : goal.invariant-loop-q
invariant-loop-q l =
    AreAdded l.source.arena.now l.source.terms.now (map (λ c. c.items) l.initial.clauses.items) (map (λ c. c.items) l.clauses.items)
    (flat_map (relation_clauses l.source.signature.now (pair_at l.source.terms.now l.p)) (map (pair_at l.source.terms.now) (take l.q-index l.pairs)))
