use Rattle.std.proofs.Common.{◌≡◌, map, take}
use Rattle.std.specs.List.{flat_map}
use Rattle.type_schema.specs.SchemaViews.{model_info_of, script_of}
use Rattle.online_meaning.proofs.Waits.{of-model}
use Rattle.online_ground.proofs.slow.slow_names.Given as goal

abbrev pub invariant-loop-info : goal.invariant-loop-info
invariant-loop-info l = l.names.items ≡ flat_map (of-model (script_of l.t) l.d) (map model_info_of (take l.info-index l.models))
