use Rattle.std.proofs.Common.{◌≡◌, map, take}
use Rattle.type_schema.specs.SchemaViews.{field_info_of, schema_of}
use Rattle.type_anew.specs.Names.{names_in}
use Rattle.type_anew.specs.Specs.{written_field}
use Rattle.type_anew.proofs.models.written_fields.Given as goal

abbrev pub invariant-loop-info : goal.invariant-loop-info
invariant-loop-info l = l.all.items ≡ map (written_field (names_in (schema_of l.s))) (map field_info_of (take l.info-index l.fields))
