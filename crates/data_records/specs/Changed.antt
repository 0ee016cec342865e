-- What comes of a value that is to be put into a field of a record.
use Rattle.std.specs.Prelude.{◌≡◌, ◌≤◌, ℕ, ◌+◌, ◌-◌, ◌==◌, Bool, true, false, List, [], ◌∷◌, None, Some, is_some, Result, Ok, Err, if◌then◌else◌}
use Rattle.std.specs.List.{find}
use Rattle.type_schema.specs.Schema.{FieldInfo}
use Rattle.data_meaning.specs.Values.{Value}
use Rattle.data_meaning.specs.Database.{Slot, Record, Table, Database, has_record, slots_of, field_at}
use Rattle.data_records.specs.declared.data_err.DataErr.{DataErr}
use Rattle.data_records.specs.declared.data_err.DataErr.TheVariants as err
use Rattle.data_records.specs.declared.data_err.Limit.TheVariants as limit
use Rattle.data_records.specs.Shape.{IsShape, dangling_in}
use Rattle.data_records.specs.Room.{weight_of, total_weight, most_weight}
use Rattle.data_records.specs.Inserted.{change_table}

-- the first element that passes the test changed
abbrev pub change_first : {A : Type 0} → (A → Bool) → (A → A) → List A → List A
change_first p change [] = []
change_first p change (x ∷ xs) = if p x then change x ∷ xs else x ∷ change_first p change xs

abbrev pub with_slot_value : Value → Slot → Slot
with_slot_value v slot = record slot { value = v }

-- the field of the record holds the value
abbrev pub with_value : ℕ → Value → Record → Record
with_value f v r = record r { slots = change_first (λ (slot : Slot). slot.field == f) (with_slot_value v) r.slots }

abbrev pub with_value_in : ℕ → ℕ → Value → Table → Table
with_value_in id f v t = record t { records = change_first (λ (r : Record). r.id == id) (with_value f v) t.records }

-- the field of the record of the model holds the value
abbrev pub with_field : ℕ → ℕ → ℕ → Value → Database → Database
with_field m id f v d = change_table m (with_value_in id f v) d

-- whether the record is there and has the field
abbrev pub has_field : Database → ℕ → ℕ → ℕ → Bool
has_field d m id f = is_some (find (λ (slot : Slot). slot.field == f) (slots_of d m id))

-- With the value in place of the old one the weight does not rise, or the database keeps within the limit: a difference of numbers is
-- never below 0.
abbrev pub HasRoomFor : Database → Value → Value → Type 0
HasRoomFor d old v = weight_of v ≤ weight_of old + (most_weight - total_weight d)

module _ (d : Database) (m id : ℕ) (field : FieldInfo) (v : Value) where
  -- nothing refuses the value
  pub record IsFitting : Type 0 where
    pub field_there : has_field d m id field.number ≡ true
    pub shaped : IsShape field.ty v
    pub there : dangling_in (has_record d) field.ty v ≡ None
    pub room : HasRoomFor d (field_at d m id field.number) v

  -- Why the value is refused; a later refusal comes only where no earlier one does.
  abbrev pub IsUnfit : DataErr → Type 0
  IsUnfit err.NoRecord = has_field d m id field.number ≡ false
  IsUnfit (err.WrongShape f) = (has_field d m id field.number ≡ true) × (IsShape field.ty v → ⊥) × (f ≡ field.number)
  IsUnfit (err.Dangling f i) =
      (has_field d m id field.number ≡ true) × IsShape field.ty v × (dangling_in (has_record d) field.ty v ≡ Some i) × (f ≡ field.number)
  IsUnfit (err.Referenced n i f) = ⊥
  IsUnfit (err.Full limit.Records) = ⊥
  IsUnfit (err.Full limit.Weight) =
      (has_field d m id field.number ≡ true) × IsShape field.ty v × (dangling_in (has_record d) field.ty v ≡ None)
      × (HasRoomFor d (field_at d m id field.number) v → ⊥)
  IsUnfit err.IdsSpent = ⊥
  IsUnfit err.OutOfMemory = Unit {0}

  -- What `set_field` answers, and the database after it.
  abbrev pub Sets : Result (Unit {0}) DataErr → Database → Type 0
  Sets (Ok done) after = IsFitting × (after ≡ with_field m id field.number v d)
  Sets (Err e) after = IsUnfit e × (after ≡ d)
