use Rattle.form_formula.specs.Nodes.{formula_of}
use Rattle.form_terms.specs.Satisfying.{SatisfiesWith}
use Rattle.decide_smaller.proofs.leaving.smaller_sort.Given as goal

abbrev pub invariant-loop-element : goal.invariant-loop-element
invariant-loop-element l = SatisfiesWith l.signature (formula_of l.arena l.id) l.best.0 l.best.1

abbrev pub decreases-loop-element : goal.decreases-loop-element
decreases-loop-element l = l.element
