use Rattle.std.proofs.Common.{get_or}
use Rattle.form_formula.specs.declared.node.Node.TheVariants.{Yes}
use Rattle.form_formula.specs.Nodes.{formula_of}
use Rattle.form_strata.specs.declared.visit.Above.TheVariants.{Exists}
use Rattle.form_strata.specs.SortGraph.{edges_of}
use Rattle.form_strata.specs.Visits.{IsWalkOf, steps_left}
use Rattle.form_strata.proofs.edges.edges_of.Given as goal

abbrev pub ghost-expand : goal.ghost-expand
ghost-expand a = get_or a.arena.now a.visit.id Yes

abbrev pub invariant-steps : goal.invariant-steps
invariant-steps l = IsWalkOf l.signature l.arena (record { id = l.id; above = Exists 0 }) (edges_of l.signature (formula_of l.arena l.id)) l.next l.walk

abbrev pub decreases-steps : goal.decreases-steps
decreases-steps l = steps_left l.arena l.next l.walk
