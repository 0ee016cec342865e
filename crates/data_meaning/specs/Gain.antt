-- Gains and flow leaks.
use Rattle.std.specs.Prelude.{◌≡◌, ◌≤◌, ℕ, ◌-◌, Bool, true, false, ◌&&◌, ◌==◌, is_some, Option, Some, Contains}
use Rattle.std.specs.List.{list_any}
use Rattle.std.specs.Option.{option_map_or}
use Rattle.type_schema.specs.declared.rights.Kind.{Kind}
use Rattle.type_schema.specs.declared.rights.Kind.TheVariants as kind
use Rattle.type_schema.specs.declared.rights.Right.{Right}
use Rattle.type_schema.specs.declared.rights.Right.TheVariants.{Read, Write, Create, Delete}
use Rattle.type_schema.specs.declared.rights.Target.{Target}
use Rattle.type_schema.specs.declared.rights.Target.TheVariants as on
use Rattle.type_schema.specs.Trees.{Policy, Init}
use Rattle.type_schema.specs.Schema.{FieldInfo, Schema, model_of, field_of, model_of_target, policy_in}
use Rattle.type_schema.specs.Commands.{Command, create_model, delete_model, add_static, remove_static, add_principal, add_field, remove_field, update_field, weaken_field, update_model, weaken_model}
use Rattle.type_schema.specs.Script.{Script, schema_at, command_at, count}
use Rattle.type_schema.specs.Kinds.{is_kind_at}
use Rattle.data_meaning.specs.declared.principals.Principal.{Principal}
use Rattle.data_meaning.specs.declared.principals.Principal.TheVariants as who
use Rattle.data_meaning.specs.Database.{Database, has_record, is_there, IsDatabase, HasNoFurtherTables}
use Rattle.data_meaning.specs.declared.cells.Cell.{Cell}
use Rattle.data_meaning.specs.Meaning.{allows}
use Rattle.data_meaning.specs.Touched.{init_touched}
use Rattle.data_meaning.specs.Run.{run_to}

-- The databases that a script may start from, of any size: those of the schema before it together with the models that it creates,
-- which hold any records.
pub record IsStart (t : Script) (d : Database) : Type 0 where
  pub over : IsDatabase t.start d
  pub only : HasNoFurtherTables t.start d

-- ---- principals

abbrev pub kind_of : Principal → Kind
kind_of (who.Static n) = kind.Static n
kind_of (who.Rec m id) = kind.Model m

-- a principal of a kind at command k, that is there on the database
abbrev pub is_principal_at : Script → ℕ → Database → Principal → Bool
is_principal_at t k d q = is_kind_at t k (kind_of q) && is_there d q

-- ---- rights in force

abbrev pub policy_at : Script → ℕ → Target → Right → Option Policy
policy_at t k target right = policy_in (schema_at t k) target right

-- whether the principal has the right on the record with this id after k commands, from a start database
abbrev pub has_right_at : Script → ℕ → Target → Right → Database → ℕ → Principal → Bool
has_right_at t k target right d id q = option_map_or (λ policy. allows (run_to t k d) policy id q) (policy_at t k target right) false

-- ---- the commands that set rights

abbrev pub same_target : Target → Target → Bool
same_target (on.Field m f) (on.Field n g) = (m == n) && (f == g)
same_target (on.Field m f) (on.Model n) = false
same_target (on.Model m) (on.Field n g) = false
same_target (on.Model m) (on.Model n) = m == n

-- whether two given policies, of reading and writing, have one of the right; and likewise of creating and deleting
abbrev pub gives_field : Right → Option Policy → Option Policy → Bool
gives_field Read read write = is_some read
gives_field Write read write = is_some write
gives_field Create read write = false
gives_field Delete read write = false

abbrev pub gives_model : Right → Option Policy → Option Policy → Bool
gives_model Read create delete = false
gives_model Write create delete = false
gives_model Create create delete = is_some create
gives_model Delete create delete = is_some delete

-- whether the command updates the right on the target
abbrev pub updates : Target → Right → Command → Bool
updates target right (create_model m) = false
updates target right (delete_model m) = false
updates target right (add_static n) = false
updates target right (remove_static n) = false
updates target right (add_principal m) = false
updates target right (add_field m f init) = false
updates target right (remove_field m f) = false
updates target right (update_field m f read write) = same_target target (on.Field m f) && gives_field right read write
updates target right (weaken_field m f read write reason) = false
updates target right (update_model m create delete) = same_target target (on.Model m) && gives_model right create delete
updates target right (weaken_model m create delete reason) = false

-- whether the command weakens the right on the target, as it says
abbrev pub weakens : Target → Right → Command → Bool
weakens target right (create_model m) = false
weakens target right (delete_model m) = false
weakens target right (add_static n) = false
weakens target right (remove_static n) = false
weakens target right (add_principal m) = false
weakens target right (add_field m f init) = false
weakens target right (remove_field m f) = false
weakens target right (update_field m f read write) = false
weakens target right (weaken_field m f read write reason) = same_target target (on.Field m f) && gives_field right read write
weakens target right (update_model m create delete) = false
weakens target right (weaken_model m create delete reason) = same_target target (on.Model m) && gives_model right create delete

abbrev pub is_weakened : Script → Target → Right → Bool
is_weakened t target right = list_any (weakens target right) t.commands

-- ---- gains

-- Command k, counted from 1, updates the right on the target, and the principal has the right on the record after the command and did
-- not have it before.
pub record GainAt (t : Script) (k : ℕ) (target : Target) (right : Right) (d : Database) (id : ℕ) (q : Principal) : Type 0 where
  pub start : IsStart t d
  pub counted : 1 ≤ k
  pub updated : option_map_or (updates target right) (command_at t (k - 1)) false ≡ true
  pub record_there : has_record (run_to t k d) (model_of_target target) id ≡ true
  pub principal : is_principal_at t k (run_to t k d) q ≡ true
  pub after : has_right_at t k target right d id q ≡ true
  pub before : has_right_at t (k - 1) target right d id q ≡ false

abbrev pub has_target : Schema → Target → Bool
has_target s (on.Field m f) = is_some (field_of s m f)
has_target s (on.Model m) = is_some (model_of s m)

-- The target stands, by its number, in the schema before the script and in the one after it.
pub record Survives (t : Script) (target : Target) : Type 0 where
  pub first : has_target (schema_at t 0) target ≡ true
  pub last : has_target (schema_at t (count t)) target ≡ true

-- The principal has the right on the record after the script, and did not have it on the start database.
pub record Gain (t : Script) (target : Target) (right : Right) (d : Database) (id : ℕ) (q : Principal) : Type 0 where
  pub start : IsStart t d
  pub survives : Survives t target
  pub record_there : has_record (run_to t (count t) d) (model_of_target target) id ≡ true
  pub principal : is_principal_at t (count t) (run_to t (count t) d) q ≡ true
  pub after : has_right_at t (count t) target right d id q ≡ true
  pub before : has_right_at t 0 target right d id q ≡ false

-- ---- flow leaks

abbrev pub field_of_cell : Cell → Target
field_of_cell cell = on.Field cell.model cell.field

-- whether the principal may read the cell after k commands
abbrev pub may_read_at : Script → ℕ → Database → Cell → Principal → Bool
may_read_at t k d cell q = has_right_at t k (field_of_cell cell) Read d cell.id q

-- Command k, counted from 1, adds the field to the model with this initialiser.
pub record AddsAt (t : Script) (k m : ℕ) (f : FieldInfo) (init : Init) : Type 0 where
  pub counted : 1 ≤ k
  pub command : command_at t (k - 1) ≡ Some (add_field m f init)

-- Command k adds a field, which the principal may read on the record, and the initialiser touches a cell there that the principal may
-- not read. All is on the database after the command.
pub record FlowAt (t : Script) (k : ℕ) (d : Database) (id : ℕ) (q : Principal) (cell : Cell) : Type 0 where
  pub start : IsStart t d
  pub model : ℕ
  pub field : FieldInfo
  pub init : Init
  pub adds : AddsAt t k model field init
  pub record_there : has_record (run_to t k d) model id ≡ true
  pub principal : is_principal_at t k (run_to t k d) q ≡ true
  pub reads : has_right_at t k (on.Field model field.number) Read d id q ≡ true
  pub touches : Contains (init_touched (run_to t k d) init id) cell
  pub denied : may_read_at t k d cell q ≡ false
