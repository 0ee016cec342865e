use Rattle.std.proofs.Common.{◌≡◌, map, take}
use Rattle.std.specs.Prelude.{flat_map}
use Rattle.type_schema.specs.SchemaViews.{model_info_of}
use Rattle.duty_meaning.specs.Structures.{places_in}
use Rattle.duty_numbering.specs.Numbers.{function_spots, relation_spots}
use Rattle.duty_numbering.proofs.spots.spots_of.Given as goal

abbrev pub invariant-loop-model : goal.invariant-loop-model
invariant-loop-model l = record {
  functions : l.spots.functions.items ≡ function_spots (flat_map places_in (map model_info_of (take l.model-index l.models)));
  relations : l.spots.relations.items ≡ relation_spots (flat_map places_in (map model_info_of (take l.model-index l.models)));
}
