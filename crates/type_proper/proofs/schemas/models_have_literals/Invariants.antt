use Rattle.std.proofs.Common.{map, drop}
use Rattle.std.specs.List.{AllByRecursion}
use Rattle.type_schema.specs.SchemaViews.{model_info_of}
use Rattle.type_proper.specs.Literals.{ModelHasLiterals}
use Rattle.type_proper.proofs.schemas.models_have_literals.Given as goal

-- where the literals of what is left are values, all are
abbrev pub invariant-loop-model : goal.invariant-loop-model
invariant-loop-model l = AllByRecursion ModelHasLiterals (map model_info_of (drop l.model-index l.models)) → AllByRecursion ModelHasLiterals (map model_info_of l.models)
