use Rattle.std.proofs.Common.{◌≡◌, map, drop}
use Rattle.std.specs.List.{flat_map}
use Rattle.type_schema.specs.SchemaViews.{model_info_of, schema_of}
use Rattle.type_specs.specs.Sizes.{model_sizes}
use Rattle.type_scripts.specs.Counted.{counted}
use Rattle.type_scripts.specs.Counting.{counted_at}
use Rattle.type_scripts.proofs.sizes.Sizes.small_models.Given as goal

-- those that are left, with the places that are left
abbrev pub invariant-loop-model : goal.invariant-loop-model
invariant-loop-model l =
    counted_at (flat_map (model_sizes counted (schema_of l.self.schema.now)) (map model_info_of l.models)) l.places
    ≡ counted_at (flat_map (model_sizes counted (schema_of l.self.schema.now)) (map model_info_of (drop l.model-index l.models))) l.left
