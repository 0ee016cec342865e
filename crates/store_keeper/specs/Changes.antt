-- Single changes of what is stored: a record that is put, and one that is dropped.
use Rattle.std.specs.Prelude.{◌≡◌, ◌⊎◌, ℕ, ◌==◌, true, List, Option, Some, None, MatchOption, map, if◌then◌else◌}
use Rattle.type_schema.specs.Schema.{FieldInfo, ModelInfo, field_in, model_of}
use Rattle.data_meaning.specs.Values.{Value}
use Rattle.data_meaning.specs.Database.{Slot, Record, Table, Database, has_record, slots_of}
use Rattle.data_records.specs.Changed.{IsFitting, change_first, with_field, with_slot_value}
use Rattle.data_records.specs.Inserted.{IsAdmitted, change_table, next_of, with_record, with_row}
use Rattle.data_records.specs.Removed.{first_reference, without_record}
use Rattle.data_records.specs.Rows.{slots_from}
use Rattle.store_keeper.specs.Stored.{Stored}

-- ---- a record that is put

-- behind the others where its id is the next one, which is then raised; else in the place of the one with its id
abbrev pub put_into : Record → Table → Table
put_into r t = if r.id == t.next then with_record r t else record t { records = change_first (λ (x : Record). x.id == r.id) (λ (x : Record). r) t.records }

-- the record of the model, as it is given
abbrev pub with_put : ℕ → Record → Stored → Stored
with_put m r s = record s { base = change_table m (put_into r) s.base }

abbrev pub values_of : List Slot → List Value
values_of slots = map (λ (slot : Slot). slot.value) slots

module _ (info : ModelInfo) (d : Database) (r : Record) where
  -- the record that `insert` makes of its values
  pub record IsNext : Type 0 where
    pub next : r.id ≡ next_of d info.number
    pub slots : r.slots ≡ slots_from info.fields (values_of r.slots)
    pub admitted : IsAdmitted info d (values_of r.slots)

  -- the record that is there
  pub record IsSame : Type 0 where
    pub there : has_record d info.number r.id ≡ true
    pub slots : r.slots ≡ slots_of d info.number r.id

  -- the record that is there, but for one value, which `set_field` puts into its field
  pub record IsSet (field : FieldInfo) (v : Value) : Type 0 where
    pub there : has_record d info.number r.id ≡ true
    pub known : field_in info.fields field.number ≡ Some field
    pub fits : IsFitting d info.number r.id field v
    pub slots : r.slots ≡ change_first (λ (slot : Slot). slot.field == field.number) (with_slot_value v) (slots_of d info.number r.id)

  -- it is there and differs in one field at most, which `set_field` sets
  abbrev pub IsChanged : Type 0
  IsChanged = IsSame ⊎ ((field : FieldInfo) × (v : Value) × IsSet field v)

  -- it is one that `insert` makes, or it is there and differs in one field at most
  abbrev pub IsPuttable : Type 0
  IsPuttable = IsNext ⊎ IsChanged

  -- the database after such a change of a record that is there
  abbrev pub IsSetInto : Database → Type 0
  IsSetInto after =
      (IsSame × (after ≡ d)) ⊎ ((field : FieldInfo) × (v : Value) × IsSet field v × (after ≡ with_field info.number r.id field.number v d))

  -- the database after one of these changes
  abbrev pub IsPutInto : Database → Type 0
  IsPutInto after = (IsNext × (after ≡ with_row info (values_of r.slots) d)) ⊎ IsSetInto after

-- the slots with the value of one in the place of that of its field
abbrev pub changed_by : Option Slot → List Slot → List Slot
changed_by None slots = slots
changed_by (Some new) slots = change_first (λ (slot : Slot). slot.field == new.field) (with_slot_value new.value) slots

-- If one slot at most was changed, then what is found is that slot, or nothing where all are as before.
abbrev pub FindsChange : (old new : List Slot) → Option Slot → Type 0
FindsChange old new found = (change : Option Slot) → new ≡ changed_by change old → MatchOption found (new ≡ old) (λ slot. change ≡ Some slot)

-- The model is one of the schema, and the record may be put into its table.
pub record MayPut (s : Stored) (info : ModelInfo) (r : Record) : Type 0 where
  pub model : model_of s.schema info.number ≡ Some info
  pub puttable : IsPuttable info s.base r

-- ---- a record that is dropped

abbrev pub with_drop : (m id : ℕ) → Stored → Stored
with_drop m id s = record s { base = without_record m id s.base }

-- the model is one of the schema, and `remove` takes the record out
pub record MayDrop (s : Stored) (info : ModelInfo) (id : ℕ) : Type 0 where
  pub model : model_of s.schema info.number ≡ Some info
  pub there : has_record s.base info.number id ≡ true
  pub free : first_reference s.schema s.base info.number id ≡ None
