use Rattle.std.proofs.Common.{rules, map}
use Rattle.std.specs.List.{AllByRecursion}
use Rattle.type_schema.specs.SchemaViews.{command_of, schema_of, script_of}
use Rattle.check_report_back.specs.Scripts.{AddsNames, HaveNames}
use Rattle.check_report_back.proofs.Names.{has-names}
use Rattle.check_report_back.proofs.scripts.scripts_have_names.Goals as goal

pub returns : goal.returns
returns c =
    let commands : AllByRecursion AddsNames (map command_of c.args.t.now.commands) = search rules in
    let schemas : AllByRecursion HaveNames (map schema_of c.args.t.now.schemas) = search rules in
    has-names (script_of c.args.t.now) c.schema_has_names.ensures commands schemas
