use Rattle.std.proofs.Common.{◌≡◌, map, drop}
use Rattle.type_schema.specs.SchemaViews.{command_of}
use Rattle.type_schema.specs.Kinds as rule
use Rattle.duty_listing.proofs.principals.is_dropped.Given as goal

abbrev pub invariant-loop-command : goal.invariant-loop-command
invariant-loop-command l =
    rule.is_dropped l.kind (map command_of (drop l.command-index l.commands)) ≡ rule.is_dropped l.kind (map command_of l.commands)
