use Rattle.std.proofs.Common.{◌≡◌, take}
use Rattle.std.specs.List.{flat_map}
use Rattle.ground_terms.specs.Codes.{code_functions}
use Rattle.ground_terms.proofs.applied.applied_functions.Given as goal

abbrev pub invariant-loop-part : goal.invariant-loop-part
invariant-loop-part l = l.functions.items ≡ flat_map (code_functions l.signature l.arena) (take l.part-index l.parts)
