use Rattle.std.proofs.Common.{◌≡◌, ◌==◌, map, take}
use Rattle.std.specs.Prelude.{filter, not}
use Rattle.type_schema.specs.Schema.{FieldInfo}
use Rattle.type_schema.specs.SchemaViews.{field_info_of}
use Rattle.type_commands.proofs.changes.fields_without.Given as goal

abbrev pub invariant-loop-field : goal.invariant-loop-field
invariant-loop-field l =
    map field_info_of l.rest.items ≡ filter (λ (f : FieldInfo). not (f.number == l.number)) (map field_info_of (take l.field-index l.fields))
