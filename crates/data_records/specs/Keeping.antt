-- Each change of a database over a schema gives a database over the schema.
use Rattle.std.specs.Prelude.{◌≡◌, ℕ, None, Some, List}
use Rattle.type_schema.specs.Schema.{FieldInfo, ModelInfo, Schema, model_of, field_in}
use Rattle.type_schema.specs.Proper.{IsProper}
use Rattle.data_meaning.specs.Values.{Value}
use Rattle.data_meaning.specs.Database.{Database, has_record, IsDatabase}
use Rattle.data_records.specs.Inserted.{IsAdmitted, empty_of, with_row}
use Rattle.data_records.specs.Changed.{has_field, IsFitting, with_field}
use Rattle.data_records.specs.Removed.{first_reference, without_record}

-- a database without records, with one more record, with a value in a field, and without a record
pub record ChangesKeep (s : Schema) : Type 0 where
  pub empty : IsDatabase s (empty_of s)
  pub insert : (d : Database) → IsDatabase s d → (info : ModelInfo) (row : List Value) → model_of s info.number ≡ Some info → IsAdmitted info d row
      → IsDatabase s (with_row info row d)
  pub set_field : (d : Database) → IsDatabase s d → (m id : ℕ) (info : ModelInfo) (field : FieldInfo) (v : Value) → model_of s m ≡ Some info
      → field_in info.fields field.number ≡ Some field → IsFitting d m id field v → IsDatabase s (with_field m id field.number v d)
  pub remove : (d : Database) → IsDatabase s d → (m id : ℕ) → first_reference s d m id ≡ None → IsDatabase s (without_record m id d)

-- the law that a database over a proper schema stays one
abbrev pub DatabasesStay : Type 0
DatabasesStay = (s : Schema) → IsProper s → ChangesKeep s

-- the law that each record of a database over a schema has the fields of its model
abbrev pub RecordsHaveFields : Type 0
RecordsHaveFields =
    (s : Schema) (d : Database) → IsDatabase s d → (m id f : ℕ) (info : ModelInfo) (field : FieldInfo) → model_of s m ≡ Some info → field_in info.fields f ≡ Some field
    → has_field d m id f ≡ has_record d m id
