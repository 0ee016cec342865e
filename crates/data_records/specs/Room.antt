-- How much a database holds, and how much it may.
use Rattle.std.specs.Prelude.{◌≤◌, ℕ, ◌+◌, ◌-◌, ◌*◌, List, length}
use Rattle.std.specs.List.{sum_by}
use Rattle.data_records.specs.declared.limits.TheConstants.{MOST_RECORDS, MOST_WEIGHT}
use Rattle.data_meaning.specs.Values.{Value, Flag, Num, Str, Id, Ids, Nothing, Just}
use Rattle.data_meaning.specs.Database.{Slot, Record, Table, Database}

abbrev pub most_records : ℕ
most_records = MOST_RECORDS

abbrev pub most_weight : ℕ
most_weight = MOST_WEIGHT

-- 1, the bytes of a text, also in an option, and 8 for each id of a set
abbrev pub weight_of : Value → ℕ
weight_of (Flag b) = 1
weight_of (Num n) = 1
weight_of (Str bytes) = 1 + length bytes
weight_of (Id id) = 1
weight_of (Ids ids) = 1 + 8 * length ids
weight_of Nothing = 1
weight_of (Just v) = weight_of v

abbrev pub row_weight : List Value → ℕ
row_weight row = sum_by weight_of row

abbrev pub record_weight : Record → ℕ
record_weight r = sum_by (λ (slot : Slot). weight_of slot.value) r.slots

abbrev pub record_count : Database → ℕ
record_count d = sum_by (λ (t : Table). length t.records) d

abbrev pub total_weight : Database → ℕ
total_weight d = sum_by (λ (t : Table). sum_by record_weight t.records) d

-- The weight is 0, or the database keeps within the limit with it: a difference of numbers is never below 0.
abbrev pub HasRoom : Database → ℕ → Type 0
HasRoom d weight = weight ≤ most_weight - total_weight d
