-- Values that are taken back.
use Rattle.std.specs.Prelude.{ℕ, zero, suc, List, [], ◌∷◌, map}
use Rattle.data_meaning.specs.Database.{Record}

abbrev pub without_last : {A : Type 0} → List A → List A
without_last [] = []
without_last (x ∷ []) = []
without_last (x ∷ (y ∷ xs)) = x ∷ without_last (y ∷ xs)

abbrev pub without_last_in : Record → Record
without_last_in r = record r { slots = without_last r.slots }

-- the records behind the first so many without their last values
abbrev pub taken_back : ℕ → List Record → List Record
taken_back zero records = map without_last_in records
taken_back (suc n) [] = []
taken_back (suc n) (r ∷ records) = r ∷ taken_back n records
