use Rattle.std.proofs.Common.{map, drop}
use Rattle.std.specs.List.{AllByRecursion}
use Rattle.type_schema.specs.SchemaViews.{schema_of}
use Rattle.check_report_back.specs.Scripts.{HaveNames}
use Rattle.check_report_back.proofs.scripts.schemas_have_names.Given as goal

-- where the names of what is left are names, all are
abbrev pub invariant-loop-schema : goal.invariant-loop-schema
invariant-loop-schema l = AllByRecursion HaveNames (map schema_of (drop l.schema-index l.schemas)) → AllByRecursion HaveNames (map schema_of l.schemas)
