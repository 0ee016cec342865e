use Rattle.std.proofs.Common.{get_or}
use Rattle.std.specs.List.{sum_by}
use Rattle.form_formula.specs.declared.node.Node.TheVariants.{Yes}
use Rattle.form_formula.specs.Nodes.{formula_of}
use Rattle.form_strata.specs.Visits.{steps_of}
use Rattle.ground_terms.specs.Matrices.{IsMatrixWalk, terms_below}
use Rattle.ground_terms.proofs.matrix.terms_below.Given as goal

abbrev pub ghost-come_to : goal.ghost-come_to
ghost-come_to a = get_or a.arena.now a.id Yes

abbrev pub invariant-steps : goal.invariant-steps
invariant-steps l = IsMatrixWalk l.arena (terms_below l.arena l.id) l.walk

abbrev pub decreases-steps : goal.decreases-steps
decreases-steps l = sum_by (λ q. steps_of (formula_of l.arena q)) l.walk.pending.items
