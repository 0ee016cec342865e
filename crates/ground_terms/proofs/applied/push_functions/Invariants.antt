use Rattle.std.proofs.Common.{◌≡◌, ◌++◌}
use Rattle.form_formula.specs.Nodes.{IsTerm, term_of}
use Rattle.ground_terms.specs.Codes.{element_functions}
use Rattle.ground_terms.proofs.applied.push_functions.Given as goal

abbrev pub invariant-down : goal.invariant-down
invariant-down l =
    IsTerm l.arena l.at
    × (l.functions.items ++ element_functions l.signature (term_of l.arena l.at) ≡ l.initial.functions.items ++ element_functions l.signature (term_of l.arena l.id))

abbrev pub decreases-down : goal.decreases-down
decreases-down l = l.at
