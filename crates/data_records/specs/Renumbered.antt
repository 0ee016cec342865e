-- Databases numbered anew. A schema numbered anew has its statics, models and fields numbered by their places in its order, from 0, the fields on
-- through all models.
use Rattle.std.specs.Prelude.{◌<◌, ◌^◌, ℕ, ◌+◌, ◌==◌, List, [], ◌∷◌, length, map, if◌then◌else◌}
use Rattle.std.specs.List.{position_or_len, sum_by}
use Rattle.type_schema.specs.Schema.{FieldInfo, ModelInfo, Schema}
use Rattle.data_meaning.specs.Database.{Slot, Record, Table, Database}

-- the new number of a model: how many models stand before it
abbrev pub new_model : List ModelInfo → ℕ → ℕ
new_model models m = position_or_len (λ (info : ModelInfo). info.number == m) models

abbrev pub place_of_field : List FieldInfo → ℕ → ℕ
place_of_field fields f = position_or_len (λ (info : FieldInfo). info.number == f) fields

-- the new number of a field of a model: how many fields stand before it, those of earlier models among them
abbrev pub new_field : List ModelInfo → ℕ → ℕ → ℕ
new_field [] m f = 0
new_field (info ∷ models) m f = if info.number == m then place_of_field info.fields f else length info.fields + new_field models m f

abbrev pub field_count : List ModelInfo → ℕ
field_count models = sum_by (λ (info : ModelInfo). length info.fields) models

-- there are so few models and fields that each has a number of 32 bits
pub record HasNewNumbers (s : Schema) : Type 0 where
  pub models : length s.models < 2 ^ 32
  pub fields : field_count s.models < 2 ^ 32

-- ---- values, ids and next ids stay

-- the value under another number
abbrev pub numbered_by : (ℕ → ℕ) → Slot → Slot
numbered_by number slot = record slot { field = number slot.field }

abbrev pub record_numbered_by : (ℕ → ℕ) → Record → Record
record_numbered_by number r = record r { slots = map (numbered_by number) r.slots }

abbrev pub renumbered_table : List ModelInfo → Table → Table
renumbered_table models t = record { model = new_model models t.model; next = t.next; records = map (record_numbered_by (new_field models t.model)) t.records }

-- the database over the schema numbered anew
abbrev pub renumbered : Schema → Database → Database
renumbered s d = map (renumbered_table s.models) d
