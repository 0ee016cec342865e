-- A script with its weakenings taken for updates: what it would be if it declared nothing.
use Rattle.std.specs.Prelude.{ℕ, ◌-◌, Bool, true, false, List, map, filter}
use Rattle.std.specs.Option.{option_map_or}
use Rattle.type_schema.specs.Commands.{Command, create_model, delete_model, add_static, remove_static, add_principal, add_field, remove_field, update_field, weaken_field, update_model, weaken_model}
use Rattle.type_schema.specs.Script.{Script, command_at}
use Rattle.duty_meaning.specs.declared.duty.Duty.{Duty}
use Rattle.duty_meaning.specs.Duties.{obligations_of}

-- the command, without that it declares a weakening
abbrev pub as_update : Command → Command
as_update (create_model m) = create_model m
as_update (delete_model m) = delete_model m
as_update (add_static n) = add_static n
as_update (remove_static n) = remove_static n
as_update (add_principal m) = add_principal m
as_update (add_field m f init) = add_field m f init
as_update (remove_field m f) = remove_field m f
as_update (update_field m f read write) = update_field m f read write
as_update (weaken_field m f read write reason) = update_field m f read write
as_update (update_model m create delete) = update_model m create delete
as_update (weaken_model m create delete reason) = update_model m create delete

-- the script, with its weakenings taken for updates
abbrev pub undeclared : Script → Script
undeclared t = record t { commands = map as_update t.commands }

-- whether the command declares a weakening
abbrev pub is_weakening : Command → Bool
is_weakening (create_model m) = false
is_weakening (delete_model m) = false
is_weakening (add_static n) = false
is_weakening (remove_static n) = false
is_weakening (add_principal m) = false
is_weakening (add_field m f init) = false
is_weakening (remove_field m f) = false
is_weakening (update_field m f read write) = false
is_weakening (weaken_field m f read write reason) = true
is_weakening (update_model m create delete) = false
is_weakening (weaken_model m create delete reason) = true

-- The declared weakenings, one by one: for each command that weakens, each right that it gives and each kind of principals. They are what
-- would be obligations of these commands if they declared nothing.
abbrev pub weakenings_of : Script → List Duty
weakenings_of t = filter (λ (duty : Duty). option_map_or is_weakening (command_at t (duty.command - 1)) false) (obligations_of (undeclared t))
