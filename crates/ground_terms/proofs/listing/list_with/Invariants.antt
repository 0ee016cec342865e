use Rattle.std.proofs.Common.{take, map}
use Rattle.form_terms.specs.GroundTerms.{term_and}
use Rattle.ground_terms.specs.Nodes.{term_of}
use Rattle.ground_terms.specs.Standing.{lists_at, AreListsListed}
use Rattle.ground_terms.proofs.listing.list_with.Given as goal

abbrev pub invariant-loop-rest : goal.invariant-loop-rest
invariant-loop-rest l = AreListsListed (map (term_and (term_of l.initial.terms l.first)) (lists_at l.initial.terms (take l.rest-index l.rests))) l.initial.terms l.terms l.initial.listed.items l.listed.items
