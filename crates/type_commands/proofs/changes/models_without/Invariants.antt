use Rattle.std.proofs.Common.{◌≡◌, ◌==◌, map, take}
use Rattle.std.specs.Prelude.{filter, not}
use Rattle.type_schema.specs.Schema.{ModelInfo}
use Rattle.type_schema.specs.SchemaViews.{model_info_of}
use Rattle.type_commands.proofs.changes.models_without.Given as goal

abbrev pub invariant-loop-info : goal.invariant-loop-info
invariant-loop-info l =
    map model_info_of l.rest.items ≡ filter (λ (m : ModelInfo). not (m.number == l.number)) (map model_info_of (take l.info-index l.models))
