use Rattle.std.proofs.Common.{◌≡◌, ◌<◌, ℕ, false, get_or}
use Rattle.decide_models.specs.Columns.{is_constant}
use Rattle.ground_terms.specs.declared.node.TermNode.TheVariants.{Empty}
use Rattle.decide_models.proofs.places.constant_of.Given as goal

abbrev pub invariant-loop-id : goal.invariant-loop-id
invariant-loop-id l = (k : ℕ) → k < l.id → is_constant l.sort (get_or l.terms k Empty) ≡ false
