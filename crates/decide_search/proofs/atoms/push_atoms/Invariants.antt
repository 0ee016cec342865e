use Rattle.std.proofs.Common.{length, take}
use Rattle.decide_search.specs.Encoding.{AddsAtoms}
use Rattle.decide_search.specs.Sides.{AreTakenBy}
use Rattle.decide_search.proofs.atoms.push_atoms.Given as goal

abbrev pub invariant-loop-fact : goal.invariant-loop-fact
invariant-loop-fact l =
    AddsAtoms l.reader.signature.now l.reader.arena.now l.reader.terms.now l.reader.words.now l.reader.texts.now (take l.fact-index l.facts) l.initial.atoms l.atoms
    × (AreTakenBy (length l.reader.terms.now) (length l.reader.texts.now) l.initial.atoms → AreTakenBy (length l.reader.terms.now) (length l.reader.texts.now) l.atoms)
