use Rattle.form_formula.specs.Trees.{Formula}
use Rattle.form_terms.specs.Parts.{parts_of}
use Rattle.ground_terms.specs.Parts.{AreThinned}
use Rattle.ground_terms.specs.Needed.{AreNeededAfter}
use Rattle.ground_terms.proofs.needed.needed_sorts.Given as goal

abbrev pub invariant-rounds : goal.invariant-rounds
invariant-rounds l = (f : Formula) → AreThinned l.fn.arena (parts_of f) l.fn.parts → AreNeededAfter l.signature f l.round l.marks.items
