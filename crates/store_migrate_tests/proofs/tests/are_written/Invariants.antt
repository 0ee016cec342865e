use Rattle.std.proofs.Common.{take}
use Rattle.std.specs.List.{AllByRecursion}
use Rattle.type_commands.specs.CommandLaw.{IsWritten}
use Rattle.store_migrate_tests.proofs.tests.are_written.Given as goal

abbrev pub invariant-loop-command : goal.invariant-loop-command
invariant-loop-command l = AllByRecursion IsWritten (take l.command-index l.commands)
