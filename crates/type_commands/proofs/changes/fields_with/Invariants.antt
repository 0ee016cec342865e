use Rattle.std.proofs.Common.{◌≡◌, map, take}
use Rattle.std.specs.Option.{option_map}
use Rattle.type_schema.specs.Commands.{change_field}
use Rattle.type_schema.specs.SchemaViews.{field_info_of}
use Rattle.type_schema.specs.Views.{policy_of}
use Rattle.type_commands.specs.Changes.{with_given}
use Rattle.type_commands.proofs.changes.fields_with.Given as goal

abbrev pub invariant-loop-field : goal.invariant-loop-field
invariant-loop-field l =
    map field_info_of l.changed.items
    ≡ change_field l.number (with_given (option_map (λ p. policy_of p.value) l.read) (option_map (λ p. policy_of p.value) l.write))
    (map field_info_of (take l.field-index l.fields))
