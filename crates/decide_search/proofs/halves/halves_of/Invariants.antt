use Rattle.std.proofs.Common.{map}
use Rattle.decide_search.specs.Encoding.{AreLinked}
use Rattle.decide_search.proofs.halves.halves_of.Given as goal

abbrev pub invariant-loop-k : goal.invariant-loop-k
invariant-loop-k l =
    AreLinked l.reader.signature.now l.reader.arena.now l.reader.terms.now l.reader.words.now l.reader.texts.now l.vars l.facts l.halves.facts.items
    (map (λ c. c.items) l.halves.links.items)
