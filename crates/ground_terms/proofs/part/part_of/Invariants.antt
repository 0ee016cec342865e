use Rattle.std.proofs.Common.{◌≡◌}
use Rattle.form_formula.specs.Nodes.{IsTerm, term_of}
use Rattle.ground_terms.specs.Parts.{root_of, ground_names}
use Rattle.ground_terms.proofs.part.part_of.Given as goal

abbrev pub invariant-loop-t : goal.invariant-loop-t
invariant-loop-t l = IsTerm l.arena l.at × (root_of (ground_names l.names) (term_of l.arena l.at) ≡ root_of (ground_names l.names) (term_of l.arena l.id))

abbrev pub decreases-loop-t : goal.decreases-loop-t
decreases-loop-t l = l.at
