use Rattle.std.proofs.Common.{map, drop}
use Rattle.std.specs.List.{AllByRecursion}
use Rattle.type_schema.specs.SchemaViews.{command_of}
use Rattle.type_proper.specs.Literals.{CommandHasLiterals}
use Rattle.type_proper.proofs.schemas.commands_have_literals.Given as goal

-- where the literals of what is left are values, all are
abbrev pub invariant-loop-command : goal.invariant-loop-command
invariant-loop-command l = AllByRecursion CommandHasLiterals (map command_of (drop l.command-index l.commands)) → AllByRecursion CommandHasLiterals (map command_of l.commands)
