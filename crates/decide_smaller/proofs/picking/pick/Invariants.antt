use Rattle.std.proofs.Common.{◌≡◌, ◌∷◌, ◌++◌, [], false}
use Rattle.std.specs.List.{list_any, range_with_len}
use Rattle.form_formula.specs.Nodes.{formula_of}
use Rattle.form_formula.specs.Truth.{truth}
use Rattle.decide_smaller.proofs.picking.pick.Given as goal

abbrev pub invariant-loop-element : goal.invariant-loop-element
invariant-loop-element l =
    (l.picks.items ≡ l.initial.picks.items)
    × (list_any (λ x. truth l.structure (l.initial.picks.items ++ x ∷ []) (formula_of l.arena l.body)) (range_with_len 0 l.element) ≡ false)
