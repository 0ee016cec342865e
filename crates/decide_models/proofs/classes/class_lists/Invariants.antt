use Rattle.std.proofs.Common.{◌≡◌, map}
use Rattle.std.specs.List.{range_with_len}
use Rattle.decide_models.specs.Columns.{classes_at}
use Rattle.decide_models.proofs.classes.class_lists.Given as goal

abbrev pub invariant-loop-sort : goal.invariant-loop-sort
invariant-loop-sort l = l.all ≡ map (classes_at l.signature l.terms l.found l.named) (range_with_len 0 l.sort)
