use Rattle.std.proofs.Common.{take}
use Rattle.ground_problem.specs.Numbers.{AreLiterals, KeepsFacts, Zips}
use Rattle.ground_problem.proofs.numbering.Numbering.clauses.Given as goal

abbrev pub invariant-loop-clause : goal.invariant-loop-clause
invariant-loop-clause l = KeepsFacts l.initial.self l.self × Zips (λ c p. AreLiterals l.self.facts.keys c.items p.items) l.clauses.items (take l.clause-index l.facts)
