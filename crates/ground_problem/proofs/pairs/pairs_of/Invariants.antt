use Rattle.std.proofs.Common.{◌≡◌, take}
use Rattle.std.specs.List.{flat_map}
use Rattle.ground_problem.specs.Inputs.{pairs_in}
use Rattle.ground_problem.proofs.pairs.pairs_of.Given as goal

abbrev pub invariant-loop-input : goal.invariant-loop-input
invariant-loop-input l = l.pairs.items ≡ flat_map pairs_in (take l.input-index l.inputs)
