use Rattle.std.proofs.Common.{◌≡◌, map}
use Rattle.std.specs.List.{range_with_len}
use Rattle.decide_models.specs.Columns.{size_of_sort}
use Rattle.decide_models.proofs.places.size_list.Given as goal

abbrev pub invariant-loop-sort : goal.invariant-loop-sort
invariant-loop-sort l = l.sizes ≡ map (size_of_sort l.found.empty l.all) (range_with_len 0 l.sort)
