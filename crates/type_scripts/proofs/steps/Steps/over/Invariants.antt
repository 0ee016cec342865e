use Rattle.std.proofs.Common.{◌≡◌, ◌+◌, drop}
use Rattle.type_typing.specs.Names.{plain_of}
use Rattle.type_commands.specs.Scripts.{steps}
use Rattle.type_scripts.specs.Counted.{counted}
use Rattle.type_scripts.specs.Running.{followed_by, run_from, run_of}
use Rattle.type_scripts.proofs.steps.Steps.over.Given as goal

-- the commands so far, and those that are left, over the schema after them
abbrev pub invariant-loop-before : goal.invariant-loop-before
invariant-loop-before l =
    followed_by (run_from (plain_of l.schema)) (steps counted 1 (plain_of l.schema) l.commands)
    ≡ followed_by (run_of l.steps) (steps counted (l.before + 1) (run_of l.steps).last (drop l.before l.commands))
