-- The words that speak of typed commands and scripts.
pub use Rattle.type_commands.specs.Users.{uses, goes_with, users, first_user}
pub use Rattle.type_commands.specs.Resolved.{resolved}
pub use Rattle.type_commands.specs.Commands.{command_sizes, command_places, typed_command}
pub use Rattle.type_commands.specs.Scripts.{Steps, steps, typed_script, GivesScript}
pub use Rattle.type_commands.specs.Worked.{WorkedCommands}
pub use Rattle.type_commands.specs.CommandLaw.{CommandsAreResolved}
