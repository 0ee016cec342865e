use Rattle.std.proofs.Common.{◌≡◌, map, take}
use Rattle.type_schema.specs.Commands.{as_removed}
use Rattle.type_schema.specs.SchemaViews.{field_info_of}
use Rattle.type_commands.proofs.removed.removed_with_model.Given as goal

abbrev pub invariant-loop-field : goal.invariant-loop-field
invariant-loop-field l = l.removed.items ≡ map (as_removed l.model) (map field_info_of (take l.field-index l.fields))
