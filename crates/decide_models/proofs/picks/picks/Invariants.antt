use Rattle.std.proofs.Common.{◌≡◌, ◌≤◌, ◌+◌, ◌++◌}
use Rattle.form_formula.specs.Nodes.{IsFormula, formula_of}
use Rattle.form_terms.specs.Satisfying.{leading_elements}
use Rattle.decide_models.specs.Columns.{choice_by}
use Rattle.decide_models.proofs.picks.picks.Given as goal

abbrev pub invariant-down : goal.invariant-down
invariant-down l =
    IsFormula l.arena l.at
    × (l.number + l.at ≤ l.initial.at)
    × (leading_elements (choice_by l.terms l.named l.elements) 0 (formula_of l.arena l.initial.at)
    ≡ l.picks ++ leading_elements (choice_by l.terms l.named l.elements) l.number (formula_of l.arena l.at))

abbrev pub decreases-down : goal.decreases-down
decreases-down l = l.at
