use Rattle.std.proofs.Common.{map}
use Rattle.decide_reading.specs.Few.{AreBrokenOnes}
use Rattle.decide_reading.proofs.few.push_each_terms.Given as goal

abbrev pub invariant-loop-two : goal.invariant-loop-two
invariant-loop-two l =
    AreBrokenOnes l.speech.signature.now l.speech.arena.now l.speech.terms.now l.speech.words.now l.speech.found.now (map (λ c. c.items) l.initial.clauses.items)
    → AreBrokenOnes l.speech.signature.now l.speech.arena.now l.speech.terms.now l.speech.words.now l.speech.found.now (map (λ c. c.items) l.clauses.items)
