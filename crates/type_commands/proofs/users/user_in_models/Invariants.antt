use Rattle.std.proofs.Common.{◌≡◌, drop, map}
use Rattle.std.specs.List.{flat_map}
use Rattle.type_schema.specs.SchemaViews.{model_info_of}
use Rattle.type_commands.specs.Users.{first_missing, model_users}
use Rattle.type_commands.proofs.users.user_in_models.Given as goal

-- the first user is among those that are left
abbrev pub invariant-loop-info : goal.invariant-loop-info
invariant-loop-info l =
    first_missing l.thing (flat_map model_users (map model_info_of l.models))
    ≡ first_missing l.thing (flat_map model_users (map model_info_of (drop l.info-index l.models)))
