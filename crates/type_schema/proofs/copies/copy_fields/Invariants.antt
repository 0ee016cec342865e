use Rattle.std.proofs.Common.{◌≡◌, map, take}
use Rattle.type_schema.specs.SchemaViews.{field_info_of}
use Rattle.type_schema.proofs.copies.copy_fields.Given as goal

abbrev pub invariant-loop-field : goal.invariant-loop-field
invariant-loop-field l = map field_info_of l.copies.items ≡ map field_info_of (take l.field-index l.fields)
