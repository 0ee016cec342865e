-- What comes of an insert that is taken back.
use Rattle.std.specs.Prelude.{◌≡◌, ℕ, ◌-◌, List, [], ◌∷◌, Option, None, Some}
use Rattle.type_schema.specs.Schema.{ModelInfo}
use Rattle.data_meaning.specs.Values.{Value}
use Rattle.data_meaning.specs.Database.{Record, Table, Database, records_of}
use Rattle.data_records.specs.Inserted.{change_table, with_row}
use Rattle.data_records.specs.TakenBack.{without_last}

abbrev pub last_of : {A : Type 0} → List A → Option A
last_of [] = None
last_of (x ∷ []) = Some x
last_of (x ∷ (y ∷ xs)) = last_of (y ∷ xs)

-- the record of the model that was inserted last
abbrev pub newest : Database → ℕ → Option Record
newest d m = last_of (records_of d m)

-- the next id where one of these records is taken back: without records it stays
abbrev pub lowered : List Record → ℕ → ℕ
lowered [] next = next
lowered (r ∷ records) next = next - 1

-- the last record left out, whose id is given again
abbrev pub without_newest_in : Table → Table
without_newest_in t = record t { next = lowered t.records t.next; records = without_last t.records }

-- the database without the record of the model that was inserted last
abbrev pub without_newest : ℕ → Database → Database
without_newest m d = change_table m without_newest_in d

-- where the last change was the insert of a row, the database is what it was before
abbrev pub Undoes : ℕ → Database → Database → Type 0
Undoes m before after = (d : Database) (info : ModelInfo) (row : List Value) → info.number ≡ m → before ≡ with_row info row d → after ≡ d
