use Rattle.std.proofs.Common.{map, drop}
use Rattle.std.specs.List.{AllByRecursion}
use Rattle.text_ast.specs.Words.{IsName}
use Rattle.type_schema.specs.Schema.{StaticInfo}
use Rattle.type_schema.specs.SchemaViews.{static_info_of}
use Rattle.check_report_back.proofs.scripts.statics_have_names.Given as goal

-- where the names of what is left are names, all are
abbrev pub invariant-loop-info : goal.invariant-loop-info
invariant-loop-info l = AllByRecursion (λ (n : StaticInfo). IsName n.name) (map static_info_of (drop l.info-index l.statics)) → AllByRecursion (λ (n : StaticInfo). IsName n.name) (map static_info_of l.statics)
