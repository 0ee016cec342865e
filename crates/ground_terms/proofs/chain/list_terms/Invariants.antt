use Rattle.std.proofs.Common.{take}
use Rattle.std.specs.List.{flat_map}
use Rattle.ground_terms.specs.Codes.{code_terms}
use Rattle.ground_terms.specs.Standing.{AreListed}
use Rattle.ground_terms.proofs.chain.list_terms.Given as goal

abbrev pub invariant-loop-part : goal.invariant-loop-part
invariant-loop-part l = AreListed (flat_map (code_terms l.signature l.arena) (take l.part-index l.parts)) l.initial.terms l.terms l.initial.listed.items l.listed.items
