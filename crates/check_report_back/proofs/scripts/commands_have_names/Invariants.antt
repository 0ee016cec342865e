use Rattle.std.proofs.Common.{map, drop}
use Rattle.std.specs.List.{AllByRecursion}
use Rattle.type_schema.specs.SchemaViews.{command_of}
use Rattle.check_report_back.specs.Scripts.{AddsNames}
use Rattle.check_report_back.proofs.scripts.commands_have_names.Given as goal

-- where the names of what is left are names, all are
abbrev pub invariant-loop-command : goal.invariant-loop-command
invariant-loop-command l = AllByRecursion AddsNames (map command_of (drop l.command-index l.commands)) → AllByRecursion AddsNames (map command_of l.commands)
