-- What is judged on the database after the command of a witness.
use Rattle.std.specs.Prelude.{ℕ, ◌-◌, ◌==◌, ◌&&◌, Bool, true, false, not, option_and_then}
use Rattle.std.specs.List.{list_any}
use Rattle.std.specs.Option.{option_map_or}
use Rattle.type_schema.specs.declared.rights.Right.{Right}
use Rattle.type_schema.specs.declared.rights.Right.TheVariants.{Read}
use Rattle.type_schema.specs.declared.rights.Target.{Target}
use Rattle.type_schema.specs.Commands.{Command, create_model, delete_model, add_static, remove_static, add_principal, add_field, remove_field, update_field, weaken_field, update_model, weaken_model}
use Rattle.type_schema.specs.Schema.{model_of_target}
use Rattle.type_schema.specs.Script.{Script, command_at}
use Rattle.data_meaning.specs.declared.cells.Cell.{Cell}
use Rattle.data_meaning.specs.declared.principals.Principal.{Principal}
use Rattle.data_meaning.specs.Database.{Database, has_record, is_there}
use Rattle.data_meaning.specs.Gain.{field_of_cell, policy_at}
use Rattle.data_meaning.specs.Meaning.{allows}
use Rattle.data_meaning.specs.Touched.{init_touched}
use Rattle.duty_meaning.specs.Duties.{init_in}
use Rattle.check_witness.specs.Witness.{Witness}

-- whether the command changes databases
abbrev pub changes : Command → Bool
changes (create_model m) = false
changes (delete_model m) = true
changes (add_static n) = false
changes (remove_static n) = false
changes (add_principal m) = false
changes (add_field m f init) = true
changes (remove_field m f) = true
changes (update_field m f read write) = false
changes (weaken_field m f read write reason) = false
changes (update_model m create delete) = false
changes (weaken_model m create delete reason) = false

-- whether the policy that was in force after k commands allows the right on this database
abbrev pub is_allowed_by : Script → ℕ → Target → Right → Database → ℕ → Principal → Bool
is_allowed_by t k target right d id q = option_map_or (λ policy. allows d policy id q) (policy_at t k target right) false

abbrev pub is_same_cell : Cell → Cell → Bool
is_same_cell cell other = (other.model == cell.model) && (other.id == cell.id) && (other.field == cell.field)

-- whether the record and the principal are there
abbrev pub are_there : Witness → Database → Bool
are_there w after = has_record after (model_of_target w.target) w.row && is_there after w.who

module _ (t : Script) (w : Witness) (after : Database) where
  -- whether the right of the witness is had by the policy that was in force after k commands
  abbrev pub has_right_by : ℕ → Bool
  has_right_by k = is_allowed_by t k w.target w.right after w.row w.who

  -- whether the command allows the right that was not allowed before
  abbrev pub is_newly_allowed : Bool
  is_newly_allowed = are_there w after && has_right_by w.command && not (has_right_by (w.command - 1))

  abbrev pub may_read : Cell → Bool
  may_read cell = is_allowed_by t w.command (field_of_cell cell) Read after cell.id w.who

  -- whether the initialiser of the field that the command adds touches the cell
  abbrev pub touches : Cell → Bool
  touches cell =
      option_map_or (λ init. list_any (is_same_cell cell) (init_touched after init w.row)) (option_and_then (init_in t) (command_at t (w.command - 1))) false

  -- whether the added field is read, and the cell through it, which may not be read
  abbrev pub leaks : Cell → Bool
  leaks cell = are_there w after && has_right_by w.command && touches cell && not (may_read cell)
