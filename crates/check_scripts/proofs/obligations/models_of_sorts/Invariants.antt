use Rattle.std.proofs.Common.{◌≡◌, map, take}
use Rattle.type_schema.specs.SchemaViews.{script_of}
use Rattle.check_scripts.specs.Outcomes as spec
use Rattle.check_scripts.proofs.obligations.models_of_sorts.Given as goal

abbrev pub invariant-loop-sort : goal.invariant-loop-sort
invariant-loop-sort l = l.models.items ≡ map (spec.model_of_sort (script_of l.t)) (take l.sort-index l.sorts)
