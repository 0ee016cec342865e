use Rattle.std.proofs.Common.{◌≤◌, drop, length}
use Rattle.ground_terms.specs.Standing.{terms_at}
use Rattle.ground_instances.specs.Lists.{IsListOf}
use Rattle.ground_instances.proofs.lists.list_from.Given as goal

abbrev pub invariant-left : goal.invariant-left
invariant-left l = (l.left ≤ length l.ids) × IsListOf (terms_at l.fn.terms (drop l.left l.ids)) l.fn.terms l.terms l.list

abbrev pub decreases-left : goal.decreases-left
decreases-left l = l.left
