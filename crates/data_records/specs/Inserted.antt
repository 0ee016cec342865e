-- What comes of a record that is to be inserted.
use Rattle.std.specs.Prelude.{◌≡◌, ◌<◌, ◌≤◌, ℕ, ◌+◌, ◌&&◌, ◌||◌, ◌==◌, List, [], ◌∷◌, ◌++◌, Result, Ok, Err, map, if◌then◌else◌}
use Rattle.std.specs.Option.{option_map_or}
use Rattle.type_schema.specs.Schema.{ModelInfo, Schema}
use Rattle.data_meaning.specs.Values.{Value, last_id}
use Rattle.data_meaning.specs.Database.{Record, Table, Database, table_of, has_record}
use Rattle.data_records.specs.declared.data_err.DataErr.{DataErr}
use Rattle.data_records.specs.declared.data_err.DataErr.TheVariants as err
use Rattle.data_records.specs.declared.data_err.Limit.TheVariants as limit
use Rattle.data_records.specs.Shape.{There}
use Rattle.data_records.specs.Rows.{AreShaped, IsFirstWrong, AreAllThere, IsFirstDangling, slots_from}
use Rattle.data_records.specs.Room.{most_records, row_weight, record_count, HasRoom}

-- a table without records
abbrev pub empty_table : ModelInfo → Table
empty_table info = record { model = info.number; next = 1; records = [] }

-- a table without records for each model
abbrev pub empty_of : Schema → Database
empty_of s = map empty_table s.models

-- the first table of the model changed
abbrev pub change_table : ℕ → (Table → Table) → Database → Database
change_table m change [] = []
change_table m change (t ∷ d) = if t.model == m then change t ∷ d else t ∷ change_table m change d

abbrev pub next_of : Database → ℕ → ℕ
next_of d m = option_map_or (λ (t : Table). t.next) (table_of d m) 1

-- one more record, and the next id is above it
abbrev pub with_record : Record → Table → Table
with_record r t = record t { next = t.next + 1; records = t.records ++ r ∷ [] }

-- one more record of the model, which has the next id and these values
abbrev pub with_row : ModelInfo → List Value → Database → Database
with_row info row d = change_table info.number (with_record (record { id = next_of d info.number; slots = slots_from info.fields row })) d

-- the records that are there, and the one with this model and id
abbrev pub is_there_or : Database → ℕ → ℕ → There
is_there_or d m next n id = has_record d n id || ((n == m) && (id == next))

-- the record that is to be made counts as being there, so that it may name itself
abbrev pub is_there_or_next : Database → ℕ → There
is_there_or_next d m = is_there_or d m (next_of d m)

-- nothing refuses the row
pub record IsAdmitted (info : ModelInfo) (d : Database) (row : List Value) : Type 0 where
  pub shaped : AreShaped info.fields row
  pub there : AreAllThere (is_there_or_next d info.number) info.fields row
  pub fewer : record_count d < most_records
  pub room : HasRoom d (row_weight row)
  pub unspent : next_of d info.number ≤ last_id

-- Why the row is refused; a later refusal comes only where no earlier one does.
abbrev pub IsRefused : ModelInfo → Database → List Value → DataErr → Type 0
IsRefused info d row err.NoRecord = ⊥
IsRefused info d row (err.WrongShape field) = IsFirstWrong info.fields row field
IsRefused info d row (err.Dangling field id) = AreShaped info.fields row × IsFirstDangling (is_there_or_next d info.number) info.fields row field id
IsRefused info d row (err.Referenced m id field) = ⊥
IsRefused info d row (err.Full limit.Records) =
    AreShaped info.fields row × AreAllThere (is_there_or_next d info.number) info.fields row × (most_records ≤ record_count d)
IsRefused info d row (err.Full limit.Weight) =
    AreShaped info.fields row × AreAllThere (is_there_or_next d info.number) info.fields row × (record_count d < most_records)
    × (HasRoom d (row_weight row) → ⊥)
IsRefused info d row err.IdsSpent =
    AreShaped info.fields row × AreAllThere (is_there_or_next d info.number) info.fields row × (record_count d < most_records)
    × HasRoom d (row_weight row) × (last_id < next_of d info.number)
IsRefused info d row err.OutOfMemory = Unit {0}

-- What `insert` answers, and the database after it.
abbrev pub Inserts : ModelInfo → Database → List Value → Result ℕ DataErr → Database → Type 0
Inserts info d row (Ok id) after = IsAdmitted info d row × (id ≡ next_of d info.number) × (after ≡ with_row info row d)
Inserts info d row (Err e) after = IsRefused info d row e × (after ≡ d)
