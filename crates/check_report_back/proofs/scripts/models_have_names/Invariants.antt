use Rattle.std.proofs.Common.{map, drop}
use Rattle.std.specs.List.{AllByRecursion}
use Rattle.type_schema.specs.SchemaViews.{model_info_of}
use Rattle.check_report_back.specs.Scripts.{HasFieldNames}
use Rattle.check_report_back.proofs.scripts.models_have_names.Given as goal

-- where the names of what is left are names, all are
abbrev pub invariant-loop-model : goal.invariant-loop-model
invariant-loop-model l = AllByRecursion HasFieldNames (map model_info_of (drop l.model-index l.models)) → AllByRecursion HasFieldNames (map model_info_of l.models)
