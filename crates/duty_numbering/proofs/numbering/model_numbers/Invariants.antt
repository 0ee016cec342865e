use Rattle.std.proofs.Common.{◌≡◌, map, take}
use Rattle.type_schema.specs.SchemaViews.{model_info_of}
use Rattle.type_schema.specs.Proper.{model_numbers as numbers_in}
use Rattle.duty_numbering.proofs.numbering.model_numbers.Given as goal

abbrev pub invariant-loop-model : goal.invariant-loop-model
invariant-loop-model l = l.numbers.items ≡ numbers_in (map model_info_of (take l.model-index l.models))
