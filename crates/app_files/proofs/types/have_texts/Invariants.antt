use Rattle.std.proofs.Common.{take}
use Rattle.std.specs.List.{AllByRecursion}
use Rattle.app_files.specs.Typed.{HasText}
use Rattle.app_files.proofs.types.have_texts.Given as goal

abbrev pub invariant-loop-command : goal.invariant-loop-command
invariant-loop-command l = AllByRecursion HasText (take l.command-index l.commands)
