use Rattle.std.proofs.Common.{take}
use Rattle.std.specs.List.{flat_map}
use Rattle.ground_terms.specs.Applying.{fields_of}
use Rattle.ground_terms.specs.Standing.{terms_at, AreListed}
use Rattle.ground_terms.proofs.round.list_functions.Given as goal

abbrev pub invariant-loop-h : goal.invariant-loop-h
invariant-loop-h l = AreListed (flat_map (fields_of l.signature (terms_at l.initial.terms l.current)) (take l.h-index l.functions)) l.initial.terms l.terms l.initial.listed.items l.listed.items
