use Rattle.std.proofs.Common.{map, drop}
use Rattle.std.specs.List.{AllByRecursion}
use Rattle.type_schema.specs.SchemaViews.{field_info_of}
use Rattle.type_proper.specs.Literals.{FieldHasLiterals}
use Rattle.type_proper.proofs.schemas.fields_have_literals.Given as goal

-- where the literals of what is left are values, all are
abbrev pub invariant-loop-field : goal.invariant-loop-field
invariant-loop-field l = AllByRecursion FieldHasLiterals (map field_info_of (drop l.field-index l.fields)) → AllByRecursion FieldHasLiterals (map field_info_of l.fields)
