use Rattle.std.proofs.Common.{◌≡◌, map, drop}
use Rattle.std.specs.List.{flat_map}
use Rattle.type_schema.specs.SchemaViews.{field_info_of, schema_of}
use Rattle.type_specs.specs.Sizes.{field_sizes}
use Rattle.type_scripts.specs.Counted.{counted}
use Rattle.type_scripts.specs.Counting.{counted_at}
use Rattle.type_scripts.proofs.sizes.Sizes.small_fields.Given as goal

-- those that are left, with the places that are left
abbrev pub invariant-loop-field : goal.invariant-loop-field
invariant-loop-field l =
    counted_at (flat_map (field_sizes counted (schema_of l.self.schema.now)) (map field_info_of l.fields)) l.places
    ≡ counted_at (flat_map (field_sizes counted (schema_of l.self.schema.now)) (map field_info_of (drop l.field-index l.fields))) l.left
