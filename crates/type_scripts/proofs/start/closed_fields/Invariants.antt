use Rattle.std.proofs.Common.{◌≡◌, map, take}
use Rattle.type_schema.specs.Script.{closed_field}
use Rattle.type_schema.specs.SchemaViews.{field_info_of}
use Rattle.type_scripts.proofs.start.closed_fields.Given as goal

abbrev pub invariant-loop-field : goal.invariant-loop-field
invariant-loop-field l = map field_info_of l.closed.items ≡ map closed_field (map field_info_of (take l.field-index l.fields))
