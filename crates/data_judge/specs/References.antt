-- The first id in the values of a database's text that names no record.
use Rattle.std.specs.Prelude.{ℕ, List, [], ◌∷◌, Option, None, Some, not, option_and_then}
use Rattle.std.specs.List.{find}
use Rattle.std.specs.Option.{option_map}
use Rattle.data_tree.specs.declared.literals.WrittenId.{WrittenId}
use Rattle.data_tree.specs.declared.literals.Lit.{Lit, out-Lit}
use Rattle.data_tree.specs.declared.literals.Lit.TheOpen.{Lit-F}
use Rattle.data_tree.specs.declared.tables.FieldLit.{FieldLit}
use Rattle.data_tree.specs.declared.tables.RecordLit.{RecordLit}
use Rattle.data_tree.specs.declared.tables.TableLit.{TableLit}
use Rattle.data_tree.specs.Literals.{Layer}
use Rattle.type_schema.specs.declared.types.TTy.{TTy}
use Rattle.type_schema.specs.Schema.{FieldInfo, ModelInfo, Schema}
use Rattle.data_meaning.specs.Database.{Database, has_record}
use Rattle.data_records.specs.Shape as shape
use Rattle.data_judge.specs.First.{first_given}
use Rattle.data_judge.specs.Meaning.{id_in}
use Rattle.data_judge.specs.Faults.{field_named, model_named}

-- where an id of the model stands that names no record
abbrev pub id_lost : Database → ℕ → Option WrittenId → Option ℕ
id_lost d m None = None
id_lost d m (Some i) = option_map (λ (j : WrittenId). j.at) (find (λ (j : WrittenId). not (has_record d m j.number)) (i ∷ []))

abbrev pub items_lost : Database → ℕ → List Lit → Option ℕ
items_lost d m items = first_given (λ l. id_lost d m (id_in l)) items

abbrev pub layer_lost : Database → ℕ → Layer → Option ℕ
layer_lost d m (Lit-F.Flag b at) = None
layer_lost d m (Lit-F.Num n at) = None
layer_lost d m (Lit-F.Str text at) = None
layer_lost d m (Lit-F.Id id at) = id_lost d m (Some id)
layer_lost d m (Lit-F.SelfId at) = None
layer_lost d m (Lit-F.NoneLit at) = None
layer_lost d m (Lit-F.SomeLit inner at) = id_lost d m (id_in inner)
layer_lost d m (Lit-F.List items at) = items_lost d m items

-- in what is written for a field of the type
abbrev pub value_lost : Database → TTy → Lit → Option ℕ
value_lost d t l = option_and_then (λ m. layer_lost d m (out-Lit l)) (shape.model_named t)

abbrev pub field_lost : Database → List FieldInfo → FieldLit → Option ℕ
field_lost d fields w = option_and_then (λ (f : FieldInfo). value_lost d f.ty w.value) (field_named fields w.name.name)

abbrev pub row_lost : Database → List FieldInfo → RecordLit → Option ℕ
row_lost d fields r = first_given (field_lost d fields) r.fields

abbrev pub table_lost : Database → List ModelInfo → TableLit → Option ℕ
table_lost d models t = option_and_then (λ (m : ModelInfo). first_given (row_lost d m.fields) t.records) (model_named models t.name.name)

-- the place of the first id in a value that names no record of the database
abbrev pub lost : Schema → Database → List TableLit → Option ℕ
lost s d ts = first_given (table_lost d s.models) ts
