use Rattle.std.proofs.Common.{◌≡◌, ◌++◌, map, take}
use Rattle.ground_gates.specs.Literals.{is_false}
use Rattle.ground_gates.proofs.parts.push_negations.Given as goal

abbrev pub invariant-loop-fact : goal.invariant-loop-fact
invariant-loop-fact l = l.literals.items ≡ l.initial.literals.items ++ map is_false (take l.fact-index l.facts)
