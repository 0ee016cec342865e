-- What is known of the parts of requests that nothing refuses.
use Rattle.std.specs.Prelude.{◌≡◌, ℕ, ◌==◌, None, Some, true}
use Rattle.type_schema.specs.Schema.{ModelInfo, Schema, field_in, model_of}
use Rattle.data_meaning.specs.Values.{Value}
use Rattle.data_meaning.specs.Database.{Record, Database, has_record, slots_of}
use Rattle.data_records.specs.Changed.{change_first, with_slot_value}
use Rattle.data_records.specs.Removed.{first_reference}
use Rattle.door_meaning.specs.Records.{Setting}

-- The record is there, and the model and the field are those of the schema.
pub record IsKnown (s : Schema) (d : Database) (id : ℕ) (set : Setting) : Type 0 where
  pub model : model_of s set.info.number ≡ Some set.info
  pub field : field_in set.info.fields set.field.number ≡ Some set.field
  pub there : has_record d set.info.number id ≡ true

-- the record with the value in its field
abbrev pub set_record : Database → (m id f : ℕ) → Value → Record
set_record d m id f v = record { id = id; slots = change_first (λ slot. slot.field == f) (with_slot_value v) (slots_of d m id) }

-- The model is one of the schema, and nothing keeps the record there.
pub record IsRemovable (s : Schema) (d : Database) (info : ModelInfo) (id : ℕ) : Type 0 where
  pub model : model_of s info.number ≡ Some info
  pub there : has_record d info.number id ≡ true
  pub free : first_reference s d info.number id ≡ None
