use Rattle.std.proofs.Common.{take}
use Rattle.ground_problem.specs.Ground.{AreVariablesOf}
use Rattle.ground_problem.specs.Numbers.{KeepsFacts, Zips}
use Rattle.ground_problem.proofs.ground.all_variables.Given as goal

abbrev pub invariant-loop-k : goal.invariant-loop-k
invariant-loop-k l =
    KeepsFacts l.initial.numbering l.numbering
    × Zips (λ xs i. AreVariablesOf l.source.arena.now l.source.terms.now l.numbering.facts.keys xs.items i) l.all.items (take l.k l.inputs)
