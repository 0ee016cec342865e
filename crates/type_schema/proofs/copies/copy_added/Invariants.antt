use Rattle.std.proofs.Common.{◌≡◌, map, take}
use Rattle.type_schema.specs.SchemaViews.{added_of}
use Rattle.type_schema.proofs.copies.copy_added.Given as goal

abbrev pub invariant-loop-field : goal.invariant-loop-field
invariant-loop-field l = map added_of l.copies.items ≡ map added_of (take l.field-index l.added)
