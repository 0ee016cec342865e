-- Typing with the sizes of the formulas that policies and initialisers become.
use Rattle.type_schema.specs.declared.schemas.Schema as code_schema
use Rattle.type_schema.specs.declared.commands.TCommand.{TCommand}
use Rattle.type_schema.specs.Schema.{Schema}
use Rattle.type_schema.specs.SchemaViews.{command_of, schema_of}
use Rattle.type_schema.specs.Commands.{Command}
use Rattle.duty_meaning.specs.Sizes.{policy_size, init_size}
use Rattle.type_specs.specs.Sizes.{Sizes}

abbrev pub counted : Sizes
counted = record { policy = policy_size; init = init_size }

-- the schema after a command, and the command
abbrev pub step_of : code_schema.Schema × TCommand → Schema × Command
step_of step = (schema_of step.0, command_of step.1)
