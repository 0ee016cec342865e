use Rattle.std.proofs.Common.{take}
use Rattle.form_terms.specs.Listing.{with_each}
use Rattle.ground_terms.specs.Standing.{terms_at, lists_at, AreListsListed}
use Rattle.ground_terms.proofs.round.list_each.Given as goal

abbrev pub invariant-loop-first : goal.invariant-loop-first
invariant-loop-first l =
    AreListsListed (with_each (terms_at l.initial.terms (take l.first-index l.firsts)) (lists_at l.initial.terms l.rests)) l.initial.terms l.terms l.initial.listed.items l.listed.items
