-- What look-up finds in a database over a schema.
use Rattle.std.specs.Prelude.{◌≡◌, ℕ, true, Some}
use Rattle.type_schema.specs.declared.types.TTy.{TTy}
use Rattle.type_schema.specs.Schema.{Schema, type_of}
use Rattle.data_meaning.specs.Values.{IsValueOf}
use Rattle.data_meaning.specs.Database.{Database, has_record, field_at, IsDatabase, IsIntact}

-- Each field of a record that is there has a value of the field's type, and each id in it names a record that is there.
abbrev pub FieldsAreTyped : Type 0
FieldsAreTyped = (s : Schema) (d : Database) → IsDatabase s d → (m f id : ℕ) (t : TTy) → type_of s m f ≡ Some t → has_record d m id ≡ true
    → IsValueOf t (field_at d m id f) × IsIntact d t (field_at d m id f)
