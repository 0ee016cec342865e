-- Schemas that typing gives are told by their trees, and stay so.
use Rattle.std.specs.Prelude.{◌≡◌, Ok}
use Rattle.std.specs.List.{AllByRecursion}
use Rattle.text_tree.specs.declared.models.Spec.{Spec}
use Rattle.text_tree.specs.declared.commands.Command as written
use Rattle.text_tree.specs.declared.commands.Script as written_script
use Rattle.type_schema.specs.Schema.{Schema}
use Rattle.type_schema.specs.Commands.{Command}
use Rattle.type_schema.specs.Script.{Script}
use Rattle.type_specs.specs.Sizes.{Sizes}
use Rattle.type_specs.specs.Specs.{typed_spec}
use Rattle.type_commands.specs.Commands.{typed_command}
use Rattle.type_commands.specs.Scripts.{typed_script}
use Rattle.type_anew.specs.Told.{IsTold}

abbrev pub SpecsAreTold : Type 0
SpecsAreTold = (sizes : Sizes) (spec : Spec) (s : Schema) → typed_spec sizes spec ≡ Ok s → IsTold s

-- after a command
abbrev pub CommandsKeepTold : Type 0
CommandsKeepTold =
    (sizes : Sizes) (s after : Schema) (c : written.Command) (command : Command) → IsTold s → typed_command sizes s c ≡ Ok (after, command) → IsTold after

-- all on the way of a script
abbrev pub ScriptsAreTold : Type 0
ScriptsAreTold =
    (sizes : Sizes) (s : Schema) (script : written_script.Script) (t : Script) → IsTold s → typed_script sizes s script ≡ Ok t → AllByRecursion IsTold t.schemas
