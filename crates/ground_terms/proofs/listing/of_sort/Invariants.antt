use Rattle.std.proofs.Common.{take}
use Rattle.std.specs.List.{filter}
use Rattle.form_terms.specs.GroundTerms.{sort_of, is_number}
use Rattle.ground_terms.specs.Standing.{terms_at, AreTermsAt}
use Rattle.ground_terms.proofs.listing.of_sort.Given as goal

abbrev pub invariant-loop-id : goal.invariant-loop-id
invariant-loop-id l = AreTermsAt l.terms l.found.items (filter (λ t. is_number (sort_of l.signature t) l.sort) (terms_at l.terms (take l.id-index l.listed)))
