use Rattle.std.proofs.Common.{◌≡◌, map, drop}
use Rattle.std.specs.Prelude.{is_some, ◌==◌}
use Rattle.std.specs.List.{find}
use Rattle.type_schema.specs.SchemaViews.{static_info_of}
use Rattle.type_schema.specs.Schema.{StaticInfo}
use Rattle.duty_listing.proofs.principals.has_static.Given as goal

-- whether it is there is settled by those that are left
abbrev pub invariant-loop-known : goal.invariant-loop-known
invariant-loop-known l =
    is_some (find (λ (info : StaticInfo). info.number == l.n) (map static_info_of (drop l.known-index l.known-items)))
    ≡ is_some (find (λ (info : StaticInfo). info.number == l.n) (map static_info_of l.known-items))
