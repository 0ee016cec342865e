use Rattle.std.proofs.Common.{◌≡◌, map, take}
use Rattle.type_schema.specs.Proper.{model_numbers}
use Rattle.type_schema.specs.SchemaViews.{model_info_of}
use Rattle.duty_numbering.specs.Elements.{sizes_of}
use Rattle.duty_numbering.proofs.structure.sizes_of.Given as goal

abbrev pub invariant-loop-model : goal.invariant-loop-model
invariant-loop-model l = l.sizes.items ≡ sizes_of l.database (model_numbers (map model_info_of (take l.model-index l.models)))
