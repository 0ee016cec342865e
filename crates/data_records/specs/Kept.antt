-- What a database in memory keeps.
use Rattle.std.specs.Prelude.{◌≡◌, ◌<◌, ℕ}
use Rattle.std.specs.List.{AllByRecursion}
use Rattle.data_meaning.specs.Database.{Record, Table, Database}
use Rattle.data_records.specs.Rising.{AreRising}
use Rattle.data_records.specs.Room.{record_count, total_weight}

-- in each table each id was given
abbrev pub AreGiven : Database → Type 0
AreGiven d = AllByRecursion (λ (t : Table). AllByRecursion (λ (r : Record). r.id < t.next) t.records) d

-- with how many records there are and how much they weigh
pub record IsKept (count weight : ℕ) (d : Database) : Type 0 where
  pub rising : AreRising d
  pub given : AreGiven d
  pub counted : count ≡ record_count d
  pub weighed : weight ≡ total_weight d
