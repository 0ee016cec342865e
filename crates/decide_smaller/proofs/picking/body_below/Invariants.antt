use Rattle.std.proofs.Common.{take}
use Rattle.form_formula.specs.Nodes.{IsFormula, formula_of}
use Rattle.decide_smaller.specs.Picks.{IsPickedTo}
use Rattle.decide_smaller.proofs.picking.body_below.Given as goal

abbrev pub invariant-loop-pick : goal.invariant-loop-pick
invariant-loop-pick l = IsFormula l.arena l.at × IsPickedTo l.structure (formula_of l.arena l.id) (take l.pick-index l.picks) (formula_of l.arena l.at)
