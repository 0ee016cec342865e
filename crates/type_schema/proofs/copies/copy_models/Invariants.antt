use Rattle.std.proofs.Common.{◌≡◌, map, take}
use Rattle.type_schema.specs.SchemaViews.{model_info_of}
use Rattle.type_schema.proofs.copies.copy_models.Given as goal

abbrev pub invariant-loop-model : goal.invariant-loop-model
invariant-loop-model l = map model_info_of l.copies.items ≡ map model_info_of (take l.model-index l.models)
