-- The run of a script: the database after each command.
use Rattle.std.specs.Prelude.{ℕ, zero, suc, not, ◌==◌, List, [], ◌∷◌, ◌++◌, map, filter, Option, None, Some, if◌then◌else◌}
use Rattle.type_schema.specs.Trees.{Init, plain, of_set}
use Rattle.type_schema.specs.Schema.{ModelInfo}
use Rattle.type_schema.specs.Commands.{Command, create_model, delete_model, add_static, remove_static, add_principal, add_field, remove_field, update_field, weaken_field, update_model, weaken_model}
use Rattle.type_schema.specs.Script.{Script, command_at, created}
use Rattle.data_meaning.specs.declared.principals.Principal.TheVariants.{Rec}
use Rattle.data_meaning.specs.Values.{Value, Id, Ids}
use Rattle.data_meaning.specs.Database.{Slot, Record, Table, Database, ids_of}
use Rattle.data_meaning.specs.Meaning.{value_of, member}

-- what an added field holds at the record with this id: the value of the initialiser, or the ids of the records that are in its set
abbrev pub init_value : Database → Init → ℕ → Value
init_value d (plain e) id = value_of d (Id id ∷ []) e
init_value d (of_set m set) id = Ids (filter (λ y. member d (Id id ∷ []) set (Rec m y)) (ids_of d m))

-- the slots of each record of the model changed
abbrev pub change_slots : ℕ → (Record → List Slot) → Database → Database
change_slots m change d =
    map (λ (t : Table). if t.model == m then record t { records = map (λ (r : Record). record r { slots = change r }) t.records } else t) d

-- An initialiser is evaluated on the database before the command. A created model keeps the records that the database has for it.
abbrev pub after_command : Command → Database → Database
after_command (create_model m) d = d
after_command (delete_model m) d = filter (λ (t : Table). not (t.model == m)) d
after_command (add_static n) d = d
after_command (remove_static n) d = d
after_command (add_principal m) d = d
after_command (add_field m f init) d =
    change_slots m (λ (r : Record). r.slots ++ (record { field = f.number; value = init_value d init r.id }) ∷ []) d
after_command (remove_field m f) d = change_slots m (λ (r : Record). filter (λ (slot : Slot). not (slot.field == f)) r.slots) d
after_command (update_field m f read write) d = d
after_command (weaken_field m f read write reason) d = d
after_command (update_model m create delete) d = d
after_command (weaken_model m create delete reason) d = d

abbrev pub after_if_any : Option Command → Database → Database
after_if_any None d = d
after_if_any (Some c) d = after_command c d

-- the database after k commands
abbrev pub run_to : Script → ℕ → Database → Database
run_to t zero d = d
run_to t (suc k) d = after_if_any (command_at t k) (run_to t k d)

-- a database of the schema before the script, with an empty table for each model that the script creates
abbrev pub widened : Script → Database → Database
widened t d = d ++ map (λ (m : ModelInfo). record { model = m.number; next = 1; records = [] }) (created t.commands)
