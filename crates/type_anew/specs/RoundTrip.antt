-- Typing a specification and writing its schema gives it again, offsets aside.
use Rattle.std.specs.Prelude.{◌≡◌, Ok}
use Rattle.text_tree.specs.declared.models.Spec.{Spec}
use Rattle.text_tree.specs.declared.commands.Command as written
use Rattle.text_tree.specs.Stripped.{stripped_command, stripped_spec}
use Rattle.type_schema.specs.Schema.{Schema}
use Rattle.type_schema.specs.Commands.{Command, schema_after}
use Rattle.type_schema.specs.Proper.{IsProper}
use Rattle.type_specs.specs.Sizes.{Sizes}
use Rattle.type_specs.specs.Specs.{typed_spec}
use Rattle.type_commands.specs.Resolved.{resolved}
use Rattle.type_anew.specs.Changed.{spec_after}
use Rattle.type_anew.specs.Specs.{written_spec}

abbrev pub SpecsComeBack : Type 0
SpecsComeBack = (sizes : Sizes) (spec : Spec) (s : Schema) → IsProper s → typed_spec sizes spec ≡ Ok s → written_spec s ≡ stripped_spec spec

-- what a schema is written as has no offsets
abbrev pub WrittenIsStripped : Type 0
WrittenIsStripped = (s : Schema) → stripped_spec (written_spec s) ≡ written_spec s

-- A command over a proper schema changes the tree that the schema is written as in just what the command says, as it was written.
abbrev pub CommandsComeBack : Type 0
CommandsComeBack =
    (s : Schema) (c : written.Command) (command : Command) → IsProper s → IsProper (schema_after s command) → resolved s c ≡ Ok command
    → written_spec (schema_after s command) ≡ spec_after (written_spec s) (stripped_command c)
