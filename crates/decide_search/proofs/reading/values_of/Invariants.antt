use Rattle.decide_search.specs.Ranged.{AreRangedValues}
use Rattle.decide_search.proofs.reading.values_of.Given as goal

abbrev pub invariant-loop-id : goal.invariant-loop-id
invariant-loop-id l = AreRangedValues l.source.reader.signature.now l.source.reader.terms.now l.id l.values
