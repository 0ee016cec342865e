-- The printed text of a start database of a script, and of a witness.
use Rattle.std.specs.Prelude.{ℕ, suc, ◌==◌, List, [], ◌∷◌, ◌++◌, Option, None, Some, codes, position}
use Rattle.std.specs.Fmt.{decimal}
use Rattle.std.specs.List.{concat, flat_map, find, list_any}
use Rattle.std.specs.Option.{option_map_or}
use Rattle.type_schema.specs.declared.rights.Right.{Right}
use Rattle.type_schema.specs.declared.rights.Right.TheVariants.{Read, Write, Create, Delete}
use Rattle.type_schema.specs.declared.rights.Target.{Target}
use Rattle.type_schema.specs.declared.rights.Target.TheVariants as on
use Rattle.type_schema.specs.Schema.{StaticInfo, FieldInfo, ModelInfo, model_of, field_of, model_of_target}
use Rattle.type_schema.specs.Commands.{Command, create_model, delete_model, add_static, remove_static, add_principal, add_field, remove_field, update_field, weaken_field, update_model, weaken_model}
use Rattle.type_schema.specs.Script.{Script, schema_at, created_by}
use Rattle.data_meaning.specs.declared.principals.Principal.{Principal}
use Rattle.data_meaning.specs.declared.principals.Principal.TheVariants.{Static, Rec}
use Rattle.data_meaning.specs.Database.{Database}
use Rattle.data_meaning.specs.declared.cells.Cell.{Cell}
use Rattle.data_print.specs.Texts.{id_text, table_text}
use Rattle.check_witness.specs.Witness.{Witness}

-- ---- names

-- the static that the command adds
abbrev pub statics_by : Command → List StaticInfo
statics_by (create_model info) = []
statics_by (delete_model m) = []
statics_by (add_static info) = info ∷ []
statics_by (remove_static n) = []
statics_by (add_principal m) = []
statics_by (add_field m f init) = []
statics_by (remove_field m f) = []
statics_by (update_field m f read write) = []
statics_by (weaken_field m f read write reason) = []
statics_by (update_model m create delete) = []
statics_by (weaken_model m create delete reason) = []

-- a name, and behind it the number of the command that adds what it names, if one does
abbrev pub marked : List ℕ → Option ℕ → List ℕ
marked name None = name
marked name (Some before) = concat (name ∷ codes "@" ∷ decimal (suc before) ∷ [])

abbrev pub right_text : Right → List ℕ
right_text Read = codes "read"
right_text Write = codes "write"
right_text Create = codes "create"
right_text Delete = codes "delete"

module _ (t : Script) where
  abbrev pub model_text : ℕ → List ℕ
  model_text m =
      marked (option_map_or (λ (info : ModelInfo). info.name) (model_of t.start m) [])
      (position (λ c. list_any (λ (info : ModelInfo). info.number == m) (created_by c)) t.commands)

  abbrev pub static_text : ℕ → List ℕ
  static_text n =
      marked
      (option_map_or (λ (info : StaticInfo). info.name) (find (λ (info : StaticInfo). info.number == n) (t.start.statics ++ flat_map statics_by t.commands)) [])
      (position (λ c. list_any (λ (info : StaticInfo). info.number == n) (statics_by c)) t.commands)

  -- a field as it is named after k commands
  abbrev pub field_text : ℕ → ℕ → ℕ → List ℕ
  field_text k m f = option_map_or (λ (info : FieldInfo). info.name) (field_of (schema_at t k) m f) []

  -- ---- databases: each table under the marked name of its model

  abbrev pub database_text : Database → List ℕ
  database_text d = flat_map (λ (m : ModelInfo). table_text (model_text m.number) d m) t.start.models

  -- ---- witnesses, line by line

  -- what a right is on, as it is named after k commands
  abbrev pub target_text : ℕ → Target → List ℕ
  target_text k (on.Field m f) = concat (codes "field " ∷ model_text m ∷ codes "." ∷ field_text k m f ∷ [])
  target_text k (on.Model m) = codes "model " ++ model_text m

  abbrev pub record_name : ℕ → ℕ → List ℕ
  record_name m id = concat (model_text m ∷ codes " " ∷ id_text id ∷ [])

  abbrev pub principal_text : Principal → List ℕ
  principal_text (Static n) = static_text n
  principal_text (Rec m id) = record_name m id

  abbrev pub touched_line : ℕ → Option Cell → List ℕ
  touched_line k None = []
  touched_line k (Some cell) =
      concat (codes "touched " ∷ record_name cell.model cell.id ∷ codes " " ∷ field_text k cell.model cell.field ∷ codes "\n" ∷ [])

  -- a right on a target, at a command
  abbrev pub access_text : ℕ → Target → Right → List ℕ
  access_text k target right = concat (codes "command " ∷ decimal k ∷ codes " " ∷ target_text k target ∷ codes " right " ∷ right_text right ∷ [])

  abbrev pub leak_line : Witness → List ℕ
  leak_line w = concat (codes "leak " ∷ access_text w.command w.target w.right ∷ codes "\n" ∷ [])

  abbrev pub row_line : Witness → List ℕ
  row_line w = concat (codes "row " ∷ record_name (model_of_target w.target) w.row ∷ codes "\n" ∷ [])

  abbrev pub principal_line : Principal → List ℕ
  principal_line who = concat (codes "principal " ∷ principal_text who ∷ codes "\n" ∷ [])

  abbrev pub witness_text : Witness → List ℕ
  witness_text w =
      concat (leak_line w ∷ row_line w ∷ principal_line w.who ∷ touched_line w.command w.cell
      ∷ codes "database\n" ∷ database_text w.base ∷ codes "end\n" ∷ [])
