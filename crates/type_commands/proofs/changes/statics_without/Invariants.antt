use Rattle.std.proofs.Common.{◌≡◌, ◌==◌, map, take}
use Rattle.std.specs.Prelude.{filter, not}
use Rattle.type_schema.specs.Schema.{StaticInfo}
use Rattle.type_schema.specs.SchemaViews.{static_info_of}
use Rattle.type_commands.proofs.changes.statics_without.Given as goal

abbrev pub invariant-loop-info : goal.invariant-loop-info
invariant-loop-info l =
    map static_info_of l.rest.items ≡ filter (λ (n : StaticInfo). not (n.number == l.number)) (map static_info_of (take l.info-index l.statics))
