-- Events of an online migration, and the queue of marked records after one.
use Rattle.std.specs.Prelude.{◌≡◌, ℕ, true, ◌||◌, None, Some, List, [], filter, drop}
use Rattle.std.specs.Option.{option_map_or}
use Rattle.type_schema.specs.Schema.{FieldInfo, ModelInfo, Schema, model_of, field_in}
use Rattle.type_schema.specs.Script.{Script, schema_at}
use Rattle.data_meaning.specs.Values.{Value}
use Rattle.data_meaning.specs.Database.{Database, has_record}
use Rattle.data_records.specs.Changed.{IsFitting, with_field}
use Rattle.data_records.specs.Inserted.{IsAdmitted, next_of, with_row}
use Rattle.data_records.specs.Removed.{first_reference, without_record}
use Rattle.online_meaning.specs.Marks.{RecordId, same_record, reads_deeply, finds_deeply, slow_records, without, marked}

-- A batch of so many records; a value put into a field of a record; a record made of a model; a record erased; and the switch.
pub data Event : Type 0 where
  batch : (size : ℕ) → Event
  put : (model id field : ℕ) → Value → Event
  make : (model : ℕ) → List Value → Event
  erase : (model id : ℕ) → Event
  switch : Event

-- the field of the model
pub record Names (s : Schema) (m f : ℕ) (field : FieldInfo) : Type 0 where
  pub model : ModelInfo
  pub found : model_of s m ≡ Some model
  pub there : field_in model.fields f ≡ Some field

-- nothing refuses the change of the database
abbrev pub IsAccepted : Schema → Database → Event → Type 0
IsAccepted s d (batch size) = Unit {0}
IsAccepted s d (put m id f v) = (field : FieldInfo) × Names s m f field × IsFitting d m id field v
IsAccepted s d (make m row) = (info : ModelInfo) × (model_of s m ≡ Some info) × IsAdmitted info d row
IsAccepted s d (erase m id) = (has_record d m id ≡ true) × (first_reference s d m id ≡ None)
IsAccepted s d switch = Unit {0}

-- the database after it
abbrev pub changed_by : Schema → Event → Database → Database
changed_by s (batch size) d = d
changed_by s (put m id f v) d = with_field m id f v d
changed_by s (make m row) d = option_map_or (λ (info : ModelInfo). with_row info row d) (model_of s m) d
changed_by s (erase m id) d = without_record m id d
changed_by s switch d = d

module _ (t : Script) where
  -- The records that an event marks, by model and id: those that read deeply the cell that is put; where a record is made or erased, those
  -- with a `Find` on its model, and of the slow ones the record that is made.
  abbrev pub marks_of : Event → Database → List RecordId
  marks_of (batch size) d = []
  marks_of (put m id f v) d = filter (λ r. reads_deeply t d r (record { model = m; id = id; field = f })) (slow_records t d)
  marks_of (make m row) d =
      filter (λ r. same_record r (record { model = m; id = next_of d m }) || finds_deeply t r.model m) (slow_records t (changed_by (schema_at t 0) (make m row) d))
  marks_of (erase m id) d = filter (λ r. finds_deeply t r.model m) (slow_records t (changed_by (schema_at t 0) (erase m id) d))
  marks_of switch d = []

  -- The queue after an event on the database: a batch takes its first records, an erased record is taken out, and records are marked.
  abbrev pub marked_after : Event → Database → List RecordId → List RecordId
  marked_after (batch size) d queue = drop size queue
  marked_after (put m id f v) d queue = marked (marks_of (put m id f v) d) queue
  marked_after (make m row) d queue = marked (marks_of (make m row) d) queue
  marked_after (erase m id) d queue = marked (marks_of (erase m id) d) (without (record { model = m; id = id }) queue)
  marked_after switch d queue = queue
