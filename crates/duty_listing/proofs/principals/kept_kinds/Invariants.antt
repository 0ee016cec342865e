use Rattle.std.proofs.Common.{◌≡◌, map, take}
use Rattle.type_schema.specs.SchemaViews.{command_of}
use Rattle.duty_listing.specs.Kinds.{kept_by}
use Rattle.duty_listing.proofs.principals.kept_kinds.Given as goal

abbrev pub invariant-loop-kind : goal.invariant-loop-kind
invariant-loop-kind l = l.kept.items ≡ kept_by (map command_of l.commands) (take l.kind-index l.kinds)
