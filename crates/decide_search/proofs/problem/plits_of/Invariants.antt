use Rattle.std.proofs.Common.{◌≡◌, map, take}
use Rattle.decide_search.specs.Problem.{plit_of}
use Rattle.decide_search.proofs.problem.plits_of.Given as goal

abbrev pub invariant-loop-literal : goal.invariant-loop-literal
invariant-loop-literal l = l.plits.items ≡ map plit_of (take l.literal-index l.clause)
