use Rattle.form_terms.specs.GroundTerms.{list_of}
use Rattle.ground_terms.specs.Nodes.{list_of as list_at}
use Rattle.ground_instances.specs.Lists.{IsDown}
use Rattle.ground_instances.proofs.lists.items_of.Given as goal

abbrev pub invariant-down : goal.invariant-down
invariant-down l = IsDown l.terms (list_of (list_at l.terms l.list)) l.at l.ids.items

abbrev pub decreases-down : goal.decreases-down
decreases-down l = l.at
