use Rattle.std.proofs.Common.{◌≡◌, ◌++◌, true}
use Rattle.form_formula.specs.Nodes.{IsTerm, term_of}
use Rattle.form_strata.specs.SortGraph.{is_dependent, term_edges}
use Rattle.form_strata.specs.Visits.{free_ones}
use Rattle.form_strata.proofs.term_edges.add_function_edges.Given as goal

abbrev pub invariant-loop-f : goal.invariant-loop-f
invariant-loop-f l =
    IsTerm l.arena l.at × (is_dependent (free_ones l.free) (term_of l.arena l.at) ≡ true)
    × (l.edges.items ++ term_edges (free_ones l.free) l.signature (term_of l.arena l.at) ≡ l.initial.edges.items ++ term_edges (free_ones l.free) l.signature (term_of l.arena l.id))

abbrev pub decreases-loop-f : goal.decreases-loop-f
decreases-loop-f l = l.at
