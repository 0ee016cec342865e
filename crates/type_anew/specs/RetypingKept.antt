-- Schemas that typing gives are within the limits, and stay so under each command.
use Rattle.std.specs.Prelude.{◌≡◌, Ok}
use Rattle.std.specs.List.{AllByRecursion}
use Rattle.text_tree.specs.declared.models.Spec.{Spec}
use Rattle.text_tree.specs.declared.commands.Command as written
use Rattle.text_tree.specs.declared.commands.Script as written_script
use Rattle.type_schema.specs.Schema.{Schema}
use Rattle.type_schema.specs.Commands.{Command}
use Rattle.type_schema.specs.Proper.{IsProper}
use Rattle.type_schema.specs.Script.{Script}
use Rattle.type_specs.specs.Specs.{typed_spec}
use Rattle.type_commands.specs.Commands.{typed_command}
use Rattle.type_commands.specs.Scripts.{typed_script}
use Rattle.type_proper.specs.Literals.{CommandHasLiterals}
use Rattle.type_proper.specs.Steady.{IsSteady}
use Rattle.type_scripts.specs.Counted.{counted}
use Rattle.type_anew.specs.Room.{IsWithinNumbers, IsWithinSizes}

-- the schema of a specification
abbrev pub SpecsHaveRoom : Type 0
SpecsHaveRoom = (spec : Spec) (s : Schema) → typed_spec counted spec ≡ Ok s → IsWithinNumbers s × IsWithinSizes s

-- the schema after a command, where both are proper
abbrev pub CommandsKeepRoom : Type 0
CommandsKeepRoom =
    (s after : Schema) (c : written.Command) (command : Command) → IsProper s → IsProper after → IsWithinNumbers s → IsWithinSizes s → typed_command counted s c ≡ Ok (after, command)
    → IsWithinNumbers after × IsWithinSizes after

-- all on the way of a script over a steady schema, where its literals are values
abbrev pub ScriptsKeepRoom : Type 0
ScriptsKeepRoom =
    (s : Schema) (script : written_script.Script) (t : Script) → IsSteady s → IsWithinNumbers s → IsWithinSizes s → AllByRecursion CommandHasLiterals t.commands
    → typed_script counted s script ≡ Ok t → AllByRecursion (λ (u : Schema). IsWithinNumbers u × IsWithinSizes u) t.schemas
