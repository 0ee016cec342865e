-- What the strata of a formula are.
use Rattle.form_formula.specs.declared.structure.Signature.{Signature}
use Rattle.form_formula.specs.Trees.{Formula}
use Rattle.form_strata.specs.declared.answer.Strata.{Strata}
use Rattle.form_strata.specs.declared.answer.Strata.TheVariants.{Order, Cycle}
use Rattle.form_strata.specs.SortGraph.{edges_of, IsStratified}
use Rattle.form_strata.specs.Order.{IsOrder, IsCycle}

-- an order where the formula is stratified, and a cycle where it is not
abbrev pub IsStrata : Signature → Formula → Strata → Type 0
IsStrata g f (Order order) = IsOrder (edges_of g f) g.sorts order × IsStratified g f
IsStrata g f (Cycle cycle) = IsCycle (edges_of g f) cycle × (IsStratified g f → ⊥)
