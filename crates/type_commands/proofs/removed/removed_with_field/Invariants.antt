use Rattle.std.proofs.Common.{◌≡◌, ◌==◌, map, take}
use Rattle.std.specs.Prelude.{filter}
use Rattle.type_schema.specs.Commands.{as_removed}
use Rattle.type_schema.specs.Schema.{FieldInfo}
use Rattle.type_schema.specs.SchemaViews.{field_info_of}
use Rattle.type_commands.proofs.removed.removed_with_field.Given as goal

abbrev pub invariant-loop-field : goal.invariant-loop-field
invariant-loop-field l =
    l.removed.items ≡ map (as_removed l.model) (filter (λ (f : FieldInfo). f.number == l.number) (map field_info_of (take l.field-index l.fields)))
