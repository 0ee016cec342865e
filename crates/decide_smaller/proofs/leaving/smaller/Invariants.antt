use Rattle.form_formula.specs.Nodes.{formula_of}
use Rattle.form_terms.specs.Satisfying.{SatisfiesWith}
use Rattle.decide_smaller.proofs.leaving.smaller.Given as goal

abbrev pub invariant-loop : goal.invariant-loop
invariant-loop l = SatisfiesWith l.signature (formula_of l.arena l.id) l.best.0 l.best.1
