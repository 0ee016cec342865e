use Rattle.std.proofs.Common.{◌≡◌, map}
use Rattle.std.specs.List.{range_with_len}
use Rattle.decide_models.specs.Columns.{element_at}
use Rattle.decide_models.proofs.places.element_list.Given as goal

abbrev pub invariant-loop-id : goal.invariant-loop-id
invariant-loop-id l = l.elements ≡ map (element_at l.signature l.terms l.found l.all) (range_with_len 0 l.id)
