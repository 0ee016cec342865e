use Rattle.std.proofs.Common.{◌≡◌, true, map, take}
use Rattle.std.specs.List.{AllByRecursion}
use Rattle.type_schema.specs.SchemaViews.{command_of}
use Rattle.online_ground.specs.Grounds.{AddsPlain}
use Rattle.online_ground.proofs.grounds.are_plain.Given as goal

abbrev pub invariant-loop-command : goal.invariant-loop-command
invariant-loop-command l = l.plain ≡ true → AllByRecursion (AddsPlain l.next) (map command_of (take l.command-index l.commands))
