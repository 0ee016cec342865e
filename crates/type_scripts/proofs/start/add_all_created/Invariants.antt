use Rattle.std.proofs.Common.{◌≡◌, ◌++◌, map, drop}
use Rattle.type_schema.specs.Script.{created}
use Rattle.type_schema.specs.SchemaViews.{command_of, model_info_of}
use Rattle.type_scripts.proofs.start.add_all_created.Given as goal

-- the models so far and those that the commands that are left create
abbrev pub invariant-loop-command : goal.invariant-loop-command
invariant-loop-command l =
    map model_info_of l.models ++ created (map command_of (drop l.command-index l.commands))
    ≡ map model_info_of l.initial.models ++ created (map command_of l.commands)
