use Rattle.std.proofs.Common.{get_or}
use Rattle.form_formula.specs.declared.node.Node.TheVariants.{Yes}
use Rattle.form_formula.specs.Nodes.{formula_of}
use Rattle.form_terms.specs.Parts.{parts_of}
use Rattle.ground_terms.specs.Walk.{IsWalkOf, steps_left}
use Rattle.ground_terms.proofs.walk.parts_of.Given as goal

abbrev pub ghost-advance : goal.ghost-advance
ghost-advance a = get_or a.arena.now a.whole.id Yes

abbrev pub invariant-steps : goal.invariant-steps
invariant-steps l = IsWalkOf l.arena (parts_of (formula_of l.arena l.id)) l.walk

abbrev pub decreases-steps : goal.decreases-steps
decreases-steps l = steps_left l.arena l.walk.pending.items
