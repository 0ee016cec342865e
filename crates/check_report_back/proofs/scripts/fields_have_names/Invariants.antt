use Rattle.std.proofs.Common.{map, drop}
use Rattle.std.specs.List.{AllByRecursion}
use Rattle.text_ast.specs.Words.{IsName}
use Rattle.type_schema.specs.Schema.{FieldInfo}
use Rattle.type_schema.specs.SchemaViews.{field_info_of}
use Rattle.check_report_back.proofs.scripts.fields_have_names.Given as goal

-- where the names of what is left are names, all are
abbrev pub invariant-loop-field : goal.invariant-loop-field
invariant-loop-field l = AllByRecursion (λ (f : FieldInfo). IsName f.name) (map field_info_of (drop l.field-index l.fields)) → AllByRecursion (λ (f : FieldInfo). IsName f.name) (map field_info_of l.fields)
