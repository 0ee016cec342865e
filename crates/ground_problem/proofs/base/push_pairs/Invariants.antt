use Rattle.std.proofs.Common.{map, take}
use Rattle.std.specs.List.{flat_map}
use Rattle.form_tables.specs.Clauses.{pair_clauses}
use Rattle.ground_problem.specs.Words.{pair_at}
use Rattle.ground_problem.specs.Facts.{AreAdded}
use Rattle.ground_problem.proofs.base.push_pairs.Given as goal

abbrev pub invariant-loop-pair : goal.invariant-loop-pair
invariant-loop-pair l =
    AreAdded l.source.arena.now l.source.terms.now (map (λ c. c.items) l.initial.clauses.items) (map (λ c. c.items) l.clauses.items)
    (flat_map (pair_clauses l.source.signature.now) (map (pair_at l.source.terms.now) (take l.pair-index l.pairs)))
