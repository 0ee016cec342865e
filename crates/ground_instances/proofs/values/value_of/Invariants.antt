use Rattle.std.proofs.Common.{◌≡◌}
use Rattle.form_formula.specs.Nodes.{IsTerm, term_of}
use Rattle.ground_terms.specs.Standing.{terms_at}
use Rattle.ground_instances.specs.GroundAtoms.{ground_value}
use Rattle.ground_instances.specs.Values.{apply_all}
use Rattle.ground_instances.proofs.values.value_of.Given as goal

abbrev pub invariant-down : goal.invariant-down
invariant-down l =
    IsTerm l.arena l.at
    × (ground_value (terms_at l.fn.terms l.env) (term_of l.arena l.id) ≡ apply_all l.functions.items (ground_value (terms_at l.fn.terms l.env) (term_of l.arena l.at)))
    × (l.terms ≡ l.fn.terms)

abbrev pub decreases-down : goal.decreases-down
decreases-down l = l.at
