use Rattle.std.proofs.Common.{take, map}
use Rattle.form_terms.specs.GroundTerms.{field}
use Rattle.ground_terms.specs.Standing.{terms_at, AreListed}
use Rattle.ground_terms.proofs.listing.list_fields.Given as goal

abbrev pub invariant-loop-t : goal.invariant-loop-t
invariant-loop-t l = AreListed (map (field l.h) (terms_at l.initial.terms (take l.t-index l.arguments))) l.initial.terms l.terms l.initial.listed.items l.listed.items
