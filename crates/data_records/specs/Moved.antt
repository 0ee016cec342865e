-- What comes of a database whose models and fields come and go.
use Rattle.std.specs.Prelude.{ℕ, not, ◌==◌, List, [], ◌∷◌, ◌++◌, filter, map, if◌then◌else◌}
use Rattle.type_schema.specs.Schema.{ModelInfo}
use Rattle.data_meaning.specs.Values.{Value}
use Rattle.data_meaning.specs.Database.{Slot, Record, Table, Database}
use Rattle.data_meaning.specs.Run.{change_slots}
use Rattle.data_records.specs.Inserted.{change_table, empty_table}

-- ---- models

-- one more table, without records
abbrev pub with_table : ModelInfo → Database → Database
with_table info d = d ++ empty_table info ∷ []

-- the tables of other models
abbrev pub without_table : ℕ → Database → Database
without_table m d = filter (λ (t : Table). not (t.model == m)) d

-- ---- fields

-- the values of other fields
abbrev pub without_slot : ℕ → Record → List Slot
without_slot f r = filter (λ (slot : Slot). not (slot.field == f)) r.slots

-- no record of the model has the field
abbrev pub without_field : ℕ → ℕ → Database → Database
without_field m f d = change_slots m (without_slot f) d

-- the same of a table
abbrev pub without_field_in : ℕ → ℕ → Table → Table
without_field_in m f t = if t.model == m then record t { records = map (λ (r : Record). record r { slots = without_slot f r }) t.records } else t

-- one more value, of this field
abbrev pub with_slot : ℕ → Value → Record → Record
with_slot f v r = record r { slots = r.slots ++ (record { field = f; value = v }) ∷ [] }

-- the values of the field for the records in their order; records for which there is none stay
abbrev pub with_slots : ℕ → List Value → List Record → List Record
with_slots f [] records = records
with_slots f (v ∷ values) [] = []
with_slots f (v ∷ values) (r ∷ records) = with_slot f v r ∷ with_slots f values records

abbrev pub with_slots_in : ℕ → List Value → Table → Table
with_slots_in f values t = record t { records = with_slots f values t.records }

-- the records of the model have these values of one more field
abbrev pub with_new_field : ℕ → ℕ → List Value → Database → Database
with_new_field m f values d = change_table m (with_slots_in f values) d
