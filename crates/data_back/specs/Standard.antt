-- What is looked at before tables are taken for a database over a schema.
use Rattle.std.specs.Prelude.{◌≡◌, ◌≤◌, ◌<◌, ◌+◌, ℕ, List, map}
use Rattle.std.specs.List.{AllByRecursion}
use Rattle.std.specs.List.Sorted.{IsStrictlyIncreasing}
use Rattle.type_schema.specs.Schema.{FieldInfo, ModelInfo}
use Rattle.data_meaning.specs.Values.{last_id, IsValueOf}
use Rattle.data_meaning.specs.Database.{Slot, Record, Table, Database, records_of, AreSlots, IsIntact}
use Rattle.data_records.specs.Inserted.{next_of}

-- the ids of the records rise and are below the next
pub record IsKeptTable (t : Table) : Type 0 where
  pub rising : IsStrictlyIncreasing (map (λ (r : Record). r.id) t.records)
  pub given : AllByRecursion (λ (r : Record). r.id < t.next) t.records

-- a slot of the field, with a value of its type whose ids name records that are there
pub record IsSlotOf (d : Database) (f : FieldInfo) (slot : Slot) : Type 0 where
  pub field : slot.field ≡ f.number
  pub value : IsValueOf f.ty slot.value
  pub intact : IsIntact d f.ty slot.value

pub record IsRecordOf (d : Database) (fields : List FieldInfo) (r : Record) : Type 0 where
  pub first : 1 ≤ r.id
  pub slots : AreSlots d fields r.slots

-- the next id of the model may be one, and its records hold values of its fields
pub record IsWhole (d : Database) (m : ModelInfo) : Type 0 where
  pub first : 1 ≤ next_of d m.number
  pub last : next_of d m.number ≤ last_id + 1
  pub records : AllByRecursion (IsRecordOf d m.fields) (records_of d m.number)
