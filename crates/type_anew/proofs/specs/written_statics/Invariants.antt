use Rattle.std.proofs.Common.{◌≡◌, map, take}
use Rattle.type_schema.specs.SchemaViews.{static_info_of}
use Rattle.type_schema.specs.Schema.{StaticInfo}
use Rattle.type_anew.specs.Names.{named}
use Rattle.type_anew.proofs.specs.written_statics.Given as goal

abbrev pub invariant-loop-info : goal.invariant-loop-info
invariant-loop-info l = l.all.items ≡ map (λ (n : StaticInfo). named n.name) (map static_info_of (take l.info-index l.statics))
