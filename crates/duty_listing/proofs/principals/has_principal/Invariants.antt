use Rattle.std.proofs.Common.{◌≡◌, map, drop, false}
use Rattle.std.specs.Option.{option_map_or}
use Rattle.type_schema.specs.SchemaViews.{model_info_of}
use Rattle.type_schema.specs.Schema.{ModelInfo, model_in}
use Rattle.duty_listing.proofs.principals.has_principal.Given as goal

abbrev pub invariant-loop-info : goal.invariant-loop-info
invariant-loop-info l =
    option_map_or (λ (info : ModelInfo). info.principal) (model_in (map model_info_of (drop l.info-index l.info-items)) l.m) false
    ≡ option_map_or (λ (info : ModelInfo). info.principal) (model_in (map model_info_of l.info-items) l.m) false
