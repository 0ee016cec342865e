use Rattle.std.proofs.Common.{◌≡◌, map, drop}
use Rattle.std.specs.List.{list_any}
use Rattle.type_schema.specs.SchemaViews.{schema_of}
use Rattle.type_schema.specs.Kinds.{has_kind}
use Rattle.duty_listing.proofs.principals.is_ever.Given as goal

abbrev pub invariant-loop-s : goal.invariant-loop-s
invariant-loop-s l =
    list_any (λ s. has_kind s l.kind) (map schema_of (drop l.s-index l.s-items)) ≡ list_any (λ s. has_kind s l.kind) (map schema_of l.s-items)
