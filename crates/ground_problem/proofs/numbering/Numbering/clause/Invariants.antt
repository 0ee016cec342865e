use Rattle.std.proofs.Common.{take}
use Rattle.ground_problem.specs.Numbers.{IsLiteralFor, KeepsFacts, Zips}
use Rattle.ground_problem.proofs.numbering.Numbering.clause.Given as goal

abbrev pub invariant-loop-l : goal.invariant-loop-l
invariant-loop-l l = KeepsFacts l.initial.self l.self × Zips (IsLiteralFor l.self.facts.keys) l.literals.items (take l.l-index l.facts)
