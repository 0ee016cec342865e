use Rattle.std.proofs.Common.{take, map}
use Rattle.form_terms.specs.GroundTerms.{skolem}
use Rattle.ground_terms.specs.Standing.{lists_at, AreListed}
use Rattle.ground_terms.proofs.listing.list_skolems.Given as goal

abbrev pub invariant-loop-ts : goal.invariant-loop-ts
invariant-loop-ts l = AreListed (map (skolem l.number l.sort) (lists_at l.initial.terms (take l.ts-index l.arguments))) l.initial.terms l.terms l.initial.listed.items l.listed.items
