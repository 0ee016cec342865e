use Rattle.std.proofs.Common.{take}
use Rattle.std.specs.List.{flat_map}
use Rattle.ground_terms.specs.Codes.{AreMarked, code_sorts}
use Rattle.ground_terms.proofs.needed.mark_parts.Given as goal

abbrev pub invariant-loop-part : goal.invariant-loop-part
invariant-loop-part l = AreMarked (flat_map (code_sorts l.signature l.arena) (take l.part-index l.parts)) l.initial.marks l.marks
