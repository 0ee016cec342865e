-- What stands at the front of the text of a witness, as functions: a value and the bytes behind it, or nothing where something else stands
-- there.
use Rattle.std.specs.Prelude.{ℕ, zero, suc, ◌^◌, nat_lt, if◌then◌else◌, List, [], ◌∷◌, ◌++◌, codes, Option, None, Some, option_and_then, slice_get}
use Rattle.std.specs.List.{find}
use Rattle.std.specs.Option.{option_map}
use Rattle.std.specs.Str.{bytes_eq}
use Rattle.type_schema.specs.declared.rights.Right.{Right}
use Rattle.type_schema.specs.declared.rights.Right.TheVariants.{Read, Write, Create, Delete}
use Rattle.type_schema.specs.declared.rights.Target.{Target}
use Rattle.type_schema.specs.declared.rights.Target.TheVariants as on
use Rattle.type_schema.specs.Schema.{StaticInfo, FieldInfo, ModelInfo, model_of}
use Rattle.type_schema.specs.Commands.{Command}
use Rattle.type_schema.specs.Script.{Script, schema_at, command_at, created_by}
use Rattle.data_meaning.specs.declared.principals.Principal.{Principal}
use Rattle.data_meaning.specs.declared.principals.Principal.TheVariants.{Static, Rec}
use Rattle.data_meaning.specs.Database.{Table}
use Rattle.data_meaning.specs.declared.cells.Cell.{Cell}
use Rattle.data_back.specs.Reading.{Answer, after, choose, word_at, number_from, name_at}
use Rattle.data_back.specs.Back.{id_at, table_at}
use Rattle.check_witness.specs.Printed.{statics_by}
use Rattle.check_witness.specs.Witness.{Witness}
use Rattle.check_report_back.specs.declared.access.Access.{Access}
use Rattle.check_report_back.specs.declared.heads.Head.{Head}

-- ---- what a name tells, with the number behind its `@`, if one stands there

-- the number of the model that the command creates, and of the static that it adds
abbrev pub model_by : Command → Option ℕ
model_by c = option_map (λ (info : ModelInfo). info.number) (slice_get (created_by c) 0)

abbrev pub static_by : Command → Option ℕ
static_by c = option_map (λ (info : StaticInfo). info.number) (slice_get (statics_by c) 0)

-- the command of this number, from 1
abbrev pub command_numbered : Script → ℕ → Option Command
command_numbered t zero = None
command_numbered t (suc k) = command_at t k

-- Without a number it is what has the name before the first command; with one it is what that command adds.
abbrev pub model_named : Script → List ℕ → Option ℕ → Option ℕ
model_named t name None =
    option_map (λ (info : ModelInfo). info.number) (find (λ (info : ModelInfo). bytes_eq info.name name) (schema_at t 0).models)
model_named t name (Some k) = option_and_then model_by (command_numbered t k)

abbrev pub static_named : Script → List ℕ → Option ℕ → Option ℕ
static_named t name None =
    option_map (λ (info : StaticInfo). info.number) (find (λ (info : StaticInfo). bytes_eq info.name name) (schema_at t 0).statics)
static_named t name (Some k) = option_and_then static_by (command_numbered t k)

-- the field of this name after k commands
abbrev pub field_named : Script → ℕ → ℕ → List ℕ → Option ℕ
field_named t k m name =
    option_map (λ (f : FieldInfo). f.number)
    (option_and_then (λ (info : ModelInfo). find (λ (f : FieldInfo). bytes_eq f.name name) info.fields) (model_of (schema_at t k) m))

-- ---- what stands at the front

-- the number behind an `@`, if one stands there
abbrev pub mark_at : List ℕ → Answer (Option ℕ)
mark_at text = choose (λ a. after (λ k b. Some (Some k, b)) (number_from 0 a)) (Some (None, text)) (word_at (codes "@") text)

-- what is found, with the bytes behind it
abbrev pub given : Option ℕ → List ℕ → Answer ℕ
given None rest = None
given (Some n) rest = Some (n, rest)

abbrev pub right_at : List ℕ → Answer Right
right_at text =
    choose (λ a. Some (Read, a))
    (choose (λ a. Some (Write, a))
    (choose (λ a. Some (Create, a)) (after (λ _ a. Some (Delete, a)) (word_at (codes "delete") text)) (word_at (codes "create") text))
    (word_at (codes "write") text)) (word_at (codes "read") text)

-- a number of 32 bits
abbrev pub number_at : List ℕ → Answer ℕ
number_at text = after (λ k a. if nat_lt k (2 ^ 32) then Some (k, a) else None) (number_from 0 text)

-- what stands on a line, behind these words
abbrev pub line_at : {A : Type 0} → List ℕ → (List ℕ → Answer A) → List ℕ → Answer A
line_at words part text = after (λ _ a. after (λ x b. after (λ _ c. Some (x, c)) (word_at (codes "\n") b)) (part a)) (word_at words text)

-- an id, behind a name and a blank
abbrev pub row_at : List ℕ → Answer ℕ
row_at text = after (λ _ a. after (λ _ b. after (λ _ c. id_at c) (word_at (codes " ") b)) (mark_at a)) (name_at text)

module _ (t : Script) where
  abbrev pub model_at : List ℕ → Answer ℕ
  model_at text = after (λ name a. after (λ mark b. given (model_named t name mark) b) (mark_at a)) (name_at text)

  abbrev pub field_at : ℕ → ℕ → List ℕ → Answer ℕ
  field_at k m text = after (λ name a. given (field_named t k m name) a) (name_at text)

  -- a field, behind its model and a dot
  abbrev pub target_field_at : ℕ → List ℕ → Answer Target
  target_field_at k text =
      after (λ m a. after (λ _ b. after (λ f c. Some (on.Field m f, c)) (field_at k m b)) (word_at (codes ".") a)) (model_at text)

  abbrev pub target_at : ℕ → List ℕ → Answer Target
  target_at k text =
      choose (λ a. target_field_at k a) (after (λ _ a. after (λ m b. Some (on.Model m, b)) (model_at a)) (word_at (codes "model ") text))
      (word_at (codes "field ") text)

  -- a right on a target, at a command
  abbrev pub access_at : List ℕ → Answer Access
  access_at text =
      after (λ k a. after (λ _ b. after (λ target c. after (λ _ d. after (λ right e. Some (record { command = k; target = target; right = right }, e))
      (right_at d)) (word_at (codes " right ") c)) (target_at k b)) (word_at (codes " ") a)) (number_at text)

  -- a record of the model, and otherwise a static
  abbrev pub who_at : List ℕ → Answer Principal
  who_at text =
      after (λ name a. after (λ mark b. choose (λ c. after (λ m d. after (λ id e. Some (Rec m id, e)) (id_at d)) (given (model_named t name mark) c))
      (after (λ n c. Some (Static n, c)) (given (static_named t name mark) b)) (word_at (codes " ") b)) (mark_at a)) (name_at text)

  -- a field of a record
  abbrev pub touched_at : ℕ → List ℕ → Answer Cell
  touched_at k text =
      after (λ m a. after (λ _ b. after (λ id c. after (λ _ d. after (λ f e. Some (record { model = m; id = id; field = f }, e))
      (field_at k m d)) (word_at (codes " ") c)) (id_at b)) (word_at (codes " ") a)) (model_at text)

  -- the cell that is read, on a line of its own, if one stands there
  abbrev pub cell_at : ℕ → List ℕ → Answer (Option Cell)
  cell_at k text =
      choose (λ a. after (λ cell b. after (λ _ c. Some (Some cell, c)) (word_at (codes "\n") b)) (touched_at k a)) (Some (None, text))
      (word_at (codes "touched ") text)

  -- the lines before the database
  abbrev pub head_at : List ℕ → Answer Head
  head_at text =
      after (λ access a. after (λ row b. after (λ who c. after (λ cell d. Some (record { access = access; row = row; who = who; cell = cell }, d))
      (cell_at access.command c)) (line_at (codes "principal ") who_at b)) (line_at (codes "row ") row_at a))
      (line_at (codes "leak command ") access_at text)

-- tables of models behind others, each behind a name
abbrev pub tables_from : List Table → List ModelInfo → List ℕ → Answer (List Table)
tables_from tables [] text = Some (tables, text)
tables_from tables (m ∷ models) text =
    after (λ _ a. after (λ _ b. after (λ table c. tables_from (tables ++ table ∷ []) models c) (table_at m b)) (mark_at a)) (name_at text)

-- the witness of the lines and the tables
abbrev pub witness_of : Head → List Table → Witness
witness_of h tables = record {
  command = h.access.command;
  target = h.access.target;
  right = h.access.right;
  base = tables;
  row = h.row;
  who = h.who;
  cell = h.cell;
}

abbrev pub witness_at : Script → List ℕ → Answer Witness
witness_at t text =
    after (λ head a. after (λ _ b. after (λ tables c. Some (witness_of head tables, c)) (tables_from [] t.start.models b)) (word_at (codes "database\n") a))
    (head_at t text)
