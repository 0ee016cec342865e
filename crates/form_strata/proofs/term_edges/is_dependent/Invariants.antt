use Rattle.std.proofs.Common.{◌≡◌}
use Rattle.form_formula.specs.Nodes.{IsTerm, term_of}
use Rattle.form_strata.specs.SortGraph.{is_dependent}
use Rattle.form_strata.specs.Visits.{free_ones}
use Rattle.form_strata.proofs.term_edges.is_dependent.Given as goal

abbrev pub invariant-loop-t : goal.invariant-loop-t
invariant-loop-t l = IsTerm l.arena l.at × (is_dependent (free_ones l.free) (term_of l.arena l.at) ≡ is_dependent (free_ones l.free) (term_of l.arena l.id))

abbrev pub decreases-loop-t : goal.decreases-loop-t
decreases-loop-t l = l.at
