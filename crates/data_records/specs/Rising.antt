-- Records by rising id, and places in lists.
use Rattle.std.specs.Prelude.{◌≡◌, ◌<◌, ℕ, Bool, true, false, List, length, map, slice_index_or}
use Rattle.std.specs.List.{AllByRecursion}
use Rattle.std.specs.List.Sorted.{IsStrictlyIncreasing}
use Rattle.data_meaning.specs.Database.{Record, Table, Database}

abbrev pub ids_by : List Record → List ℕ
ids_by records = map (λ (r : Record). r.id) records

-- in each table the ids of the records rise
abbrev pub AreRising : Database → Type 0
AreRising d = AllByRecursion (λ (t : Table). IsStrictlyIncreasing (ids_by t.records)) d

-- the element at the place passes the test, and none before it
abbrev pub IsFirstAt : {A : Type 0} → (A → Bool) → List A → ℕ → Type 0
IsFirstAt {A} p xs i =
    (i < length xs) × ((d : A) → p (slice_index_or xs i d) ≡ true) × ((k : ℕ) (d : A) → k < i → p (slice_index_or xs k d) ≡ false)
