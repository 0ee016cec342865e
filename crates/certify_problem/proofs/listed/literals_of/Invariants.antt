use Rattle.std.proofs.Common.{◌≡◌, map, take}
use Rattle.certify_problem.specs.Problems.{literal_of}
use Rattle.certify_problem.proofs.listed.literals_of.Given as goal

abbrev pub invariant-loop-literal : goal.invariant-loop-literal
invariant-loop-literal l = l.literals.items ≡ map literal_of (take l.literal-index l.clause)
