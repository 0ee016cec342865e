use Rattle.std.proofs.Common.{◌≡◌, drop, map}
use Rattle.std.specs.List.{flat_map}
use Rattle.type_schema.specs.SchemaViews.{field_info_of}
use Rattle.type_commands.specs.Users.{field_users, first_missing}
use Rattle.type_commands.proofs.users.user_in_fields.Given as goal

-- the first user is among those that are left
abbrev pub invariant-loop-f : goal.invariant-loop-f
invariant-loop-f l =
    first_missing l.thing (flat_map (field_users l.model) (map field_info_of l.fields))
    ≡ first_missing l.thing (flat_map (field_users l.model) (map field_info_of (drop l.f-index l.fields)))
