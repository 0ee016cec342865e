use Rattle.std.proofs.Common.{take}
use Rattle.std.specs.List.{flat_map}
use Rattle.ground_terms.specs.Codes.{code_names}
use Rattle.ground_terms.specs.Standing.{AreListed}
use Rattle.ground_terms.proofs.chain.list_names.Given as goal

abbrev pub invariant-loop-part : goal.invariant-loop-part
invariant-loop-part l = AreListed (flat_map code_names (take l.part-index l.parts)) l.initial.terms l.terms l.initial.listed.items l.listed.items
