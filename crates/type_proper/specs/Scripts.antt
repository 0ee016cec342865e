-- Typed scripts are well typed.
use Rattle.std.specs.Prelude.{◌≡◌, ◌≤◌, [], length, Ok}
use Rattle.std.specs.List.{AllByRecursion}
use Rattle.text_ast.specs.Limits.{most_commands}
use Rattle.text_tree.specs.declared.commands.Command as written
use Rattle.text_tree.specs.declared.commands.Script as written_script
use Rattle.type_schema.specs.Schema.{Schema}
use Rattle.type_schema.specs.Commands.{Command}
use Rattle.type_schema.specs.Script.{Script, IsScript}
use Rattle.type_specs.specs.Sizes.{Sizes}
use Rattle.type_commands.specs.Commands.{typed_command}
use Rattle.type_commands.specs.CommandLaw.{IsWritten}
use Rattle.type_commands.specs.Scripts.{typed_script}
use Rattle.type_proper.specs.Literals.{CommandHasLiterals}
use Rattle.type_proper.specs.Steady.{IsSteady}

-- the schema after a command that is typed over a steady one
abbrev pub StepsAreSteady : Type 0
StepsAreSteady =
    (sizes : Sizes) (s after : Schema) (c : written.Command) (command : Command) → IsSteady s → CommandHasLiterals command → typed_command sizes s c ≡ Ok (after, command) → IsSteady after

-- A script that is typed over a steady schema, to which no script added a field. The grammar spells each command, and literals are values.
abbrev pub ScriptsAreTyped : Type 0
ScriptsAreTyped =
    (sizes : Sizes) (s : Schema) (script : written_script.Script) (t : Script) → IsSteady s → s.added ≡ [] → length script.commands ≤ most_commands
    → AllByRecursion IsWritten script.commands → AllByRecursion CommandHasLiterals t.commands → typed_script sizes s script ≡ Ok t → IsScript t
