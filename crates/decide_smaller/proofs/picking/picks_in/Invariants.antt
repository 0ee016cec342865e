use Rattle.std.proofs.Common.{◌≡◌, true}
use Rattle.form_formula.specs.Nodes.{IsFormula, formula_of}
use Rattle.form_formula.specs.Truth.{truth}
use Rattle.decide_smaller.specs.Picks.{IsPickedTo}
use Rattle.decide_smaller.proofs.picking.picks_in.Given as goal

abbrev pub invariant-down : goal.invariant-down
invariant-down l =
    IsFormula l.arena l.at × IsPickedTo l.structure (formula_of l.arena l.id) l.picks.items (formula_of l.arena l.at)
    × (truth l.structure l.picks.items (formula_of l.arena l.at) ≡ true)

abbrev pub decreases-down : goal.decreases-down
decreases-down l = l.at
