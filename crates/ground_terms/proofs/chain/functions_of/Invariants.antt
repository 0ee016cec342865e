use Rattle.std.proofs.Common.{◌≡◌, ◌++◌}
use Rattle.form_formula.specs.Nodes.{IsTerm, term_of}
use Rattle.ground_terms.specs.Codes.{functions_in}
use Rattle.ground_terms.proofs.chain.functions_of.Given as goal

abbrev pub invariant-down : goal.invariant-down
invariant-down l = IsTerm l.arena l.at × (l.functions.items ++ functions_in (term_of l.arena l.at) ≡ functions_in (term_of l.arena l.id))

abbrev pub decreases-down : goal.decreases-down
decreases-down l = l.at
