use Rattle.std.proofs.Common.{◌≡◌, map, take}
use Rattle.type_schema.specs.SchemaViews.{command_of}
use Rattle.impact_meaning.specs.Undeclared.{as_update}
use Rattle.impact_meaning.proofs.scripts.as_updates.Given as goal

abbrev pub invariant-loop-command : goal.invariant-loop-command
invariant-loop-command l = map command_of l.made.items ≡ map as_update (map command_of (take l.command-index l.commands))
