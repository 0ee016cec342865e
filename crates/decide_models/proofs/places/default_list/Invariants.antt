use Rattle.std.proofs.Common.{◌≡◌, map}
use Rattle.std.specs.List.{range_with_len}
use Rattle.decide_models.specs.Columns.{default_at}
use Rattle.decide_models.proofs.places.default_list.Given as goal

abbrev pub invariant-loop-sort : goal.invariant-loop-sort
invariant-loop-sort l = l.defaults ≡ map (default_at l.terms l.elements) (range_with_len 0 l.sort)
