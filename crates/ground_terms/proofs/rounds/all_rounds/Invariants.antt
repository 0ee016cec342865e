use Rattle.ground_terms.specs.Applying.{IsRound}
use Rattle.ground_terms.proofs.rounds.all_rounds.Given as goal

abbrev pub invariant-rounds : goal.invariant-rounds
invariant-rounds l = IsRound l.signature l.start.functions.now l.start.parts.now l.start.plain.now l.fn.first.items l.initial.terms l.terms l.round l.current.items
