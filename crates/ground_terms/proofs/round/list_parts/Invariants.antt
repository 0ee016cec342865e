use Rattle.std.proofs.Common.{take}
use Rattle.std.specs.List.{flat_map}
use Rattle.ground_terms.specs.Applying.{code_skolems}
use Rattle.ground_terms.specs.Standing.{terms_at, AreListed}
use Rattle.ground_terms.proofs.round.list_parts.Given as goal

abbrev pub invariant-loop-part : goal.invariant-loop-part
invariant-loop-part l = AreListed (flat_map (code_skolems l.signature (terms_at l.initial.terms l.current)) (take l.part-index l.parts)) l.initial.terms l.terms l.initial.listed.items l.listed.items
