-- What a command is over a schema is a command over it.
use Rattle.std.specs.Prelude.{◌≡◌, ◌||◌, IsTrue, is_some, Option, Ok}
use Rattle.text_ast.specs.Words.{IsText}
use Rattle.text_tree.specs.declared.policies.Policy.{Policy}
use Rattle.text_tree.specs.declared.commands.Command as written
use Rattle.text_tree.specs.declared.commands.Command.TheVariants as w
use Rattle.type_schema.specs.Schema.{Schema}
use Rattle.type_schema.specs.Typing.{IsInit}
use Rattle.type_schema.specs.Commands.{Command, create_model, delete_model, add_static, remove_static, add_principal, add_field, remove_field, update_field, weaken_field, update_model, weaken_model, IsCommand}
use Rattle.type_commands.specs.Resolved.{resolved}

-- one policy is written, or both are
abbrev pub SomeWritten : Option Policy → Option Policy → Type 0
SomeWritten one other = IsTrue (is_some one || is_some other)

-- a command that the grammar spells: it gives a policy, and a reason that is a text
abbrev pub IsWritten : written.Command → Type 0
IsWritten (w.CreateModel d at) = Unit {0}
IsWritten (w.DeleteModel model at) = Unit {0}
IsWritten (w.AddStatic x at) = Unit {0}
IsWritten (w.RemoveStatic x at) = Unit {0}
IsWritten (w.AddPrincipal model at) = Unit {0}
IsWritten (w.AddField model f x init at) = Unit {0}
IsWritten (w.RemoveField model x at) = Unit {0}
IsWritten (w.UpdateFieldPolicy model x read write at) = SomeWritten read write
IsWritten (w.WeakenFieldPolicy model x read write reason at) = SomeWritten read write × IsText reason.text
IsWritten (w.UpdatePolicy model create delete at) = SomeWritten create delete
IsWritten (w.WeakenPolicy model create delete reason at) = SomeWritten create delete × IsText reason.text

-- its initialiser is well typed
abbrev pub HasInit : Schema → Command → Type 0
HasInit s (create_model info) = Unit {0}
HasInit s (delete_model m) = Unit {0}
HasInit s (add_static info) = Unit {0}
HasInit s (remove_static n) = Unit {0}
HasInit s (add_principal m) = Unit {0}
HasInit s (add_field m f init) = IsInit s m f.ty init
HasInit s (remove_field m f) = Unit {0}
HasInit s (update_field m f read write) = Unit {0}
HasInit s (weaken_field m f read write reason) = Unit {0}
HasInit s (update_model m create delete) = Unit {0}
HasInit s (weaken_model m create delete reason) = Unit {0}

abbrev pub CommandsAreResolved : Type 0
CommandsAreResolved = (s : Schema) (c : written.Command) (command : Command) → IsWritten c → HasInit s command → resolved s c ≡ Ok command → IsCommand s command
