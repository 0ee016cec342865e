use Rattle.std.proofs.Common.{◌≤◌, length, drop, []}
use Rattle.ground_terms.specs.Applying.{choices}
use Rattle.ground_terms.specs.Standing.{terms_at, AreListsListed}
use Rattle.ground_terms.proofs.round.choices.Given as goal

abbrev pub invariant-left : goal.invariant-left
invariant-left l = (l.left ≤ length l.sorts) × AreListsListed (choices l.signature (terms_at l.fn.terms l.current) (drop l.left l.sorts)) l.fn.terms l.terms [] l.lists.items

abbrev pub decreases-left : goal.decreases-left
decreases-left l = l.left
