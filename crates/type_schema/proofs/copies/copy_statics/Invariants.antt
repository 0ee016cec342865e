use Rattle.std.proofs.Common.{◌≡◌, map, take}
use Rattle.type_schema.specs.SchemaViews.{static_info_of}
use Rattle.type_schema.proofs.copies.copy_statics.Given as goal

abbrev pub invariant-loop-known : goal.invariant-loop-known
invariant-loop-known l = map static_info_of l.copies.items ≡ map static_info_of (take l.known-index l.statics)
