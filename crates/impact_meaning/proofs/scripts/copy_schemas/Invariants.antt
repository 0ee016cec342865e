use Rattle.std.proofs.Common.{◌≡◌, map, take}
use Rattle.type_schema.specs.SchemaViews.{schema_of}
use Rattle.impact_meaning.proofs.scripts.copy_schemas.Given as goal

abbrev pub invariant-loop-s : goal.invariant-loop-s
invariant-loop-s l = map schema_of l.copies.items ≡ map schema_of (take l.s-index l.schemas)
