use Rattle.std.proofs.Common.{◌≡◌, take}
use Rattle.std.specs.List.{flat_map}
use Rattle.decide_models.specs.Columns.{class_in_sort}
use Rattle.decide_models.proofs.classes.classes_told.Given as goal

abbrev pub invariant-loop-id : goal.invariant-loop-id
invariant-loop-id l = l.classes.items ≡ flat_map (class_in_sort l.signature l.terms l.found l.sort) (take l.id-index l.named)
