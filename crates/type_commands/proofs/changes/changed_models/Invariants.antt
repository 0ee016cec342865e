use Rattle.std.proofs.Common.{◌≡◌, map, take}
use Rattle.type_schema.specs.Commands.{change_model}
use Rattle.type_schema.specs.SchemaViews.{model_info_of}
use Rattle.type_commands.specs.Changes.{change_of}
use Rattle.type_commands.proofs.changes.changed_models.Given as goal

abbrev pub invariant-loop-info : goal.invariant-loop-info
invariant-loop-info l =
    map model_info_of l.changed.items ≡ change_model l.number (change_of l.change) (map model_info_of (take l.info-index l.models))
