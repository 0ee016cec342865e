use Rattle.std.proofs.Common.{take}
use Rattle.ground_problem.specs.Numbers.{IsNumber, KeepsFacts, Zips}
use Rattle.ground_problem.proofs.numbering.Numbering.variables.Given as goal

abbrev pub invariant-loop-fact : goal.invariant-loop-fact
invariant-loop-fact l = KeepsFacts l.initial.self l.self × Zips (IsNumber l.self.facts.keys) l.variables.items (take l.fact-index l.facts)
