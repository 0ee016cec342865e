use Rattle.std.proofs.Common.{take}
use Rattle.std.specs.List.{filter}
use Rattle.ground_terms.specs.Applying.{is_plain_in}
use Rattle.ground_terms.specs.Standing.{terms_at, AreTermsAt}
use Rattle.ground_terms.proofs.first.plain_terms.Given as goal

abbrev pub invariant-loop-id : goal.invariant-loop-id
invariant-loop-id l = AreTermsAt l.terms l.found.items (filter (is_plain_in l.functions) (terms_at l.terms (take l.id-index l.listed)))
