use Rattle.std.proofs.Common.{map}
use Rattle.form_tables.specs.Clauses.{congruence_clauses}
use Rattle.ground_problem.specs.Words.{vocabulary_at}
use Rattle.ground_problem.specs.Facts.{clauses_at}
use Rattle.decide_search.specs.Tabled.{AreListed}
use Rattle.decide_search.proofs.Rounds.{lacking}
use Rattle.decide_search.proofs.search.table_for.Given as goal

abbrev pub invariant-rounds : goal.invariant-rounds
invariant-rounds l = AreListed l.signature l.arena l.spoken.made.terms l.spoken.words (map (λ c. c.items) l.facts.items)

abbrev pub decreases-rounds : goal.decreases-rounds
decreases-rounds l =
    lacking (clauses_at l.arena l.spoken.made.terms (map (λ c. c.items) l.facts.items)) (congruence_clauses l.signature (vocabulary_at l.spoken.made.terms l.spoken.words))
