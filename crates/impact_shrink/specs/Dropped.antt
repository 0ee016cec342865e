-- Records that are tried, one after the other.
use Rattle.std.specs.Prelude.{◌≡◌, ◌<◌, ◌≤◌, ℕ, ◌+◌, true, false, List, [], ◌∷◌, ◌++◌, map, All, Contains, if◌then◌else◌}
use Rattle.type_schema.specs.Script.{Script}
use Rattle.data_meaning.specs.Database.{Database, has_record, ids_of}
use Rattle.data_records.specs.Room.{record_count}
use Rattle.check_witness.specs.Witness.{Witness}
use Rattle.impact_shrink.specs.declared.dropping.Left.{Left}
use Rattle.impact_shrink.specs.declared.places.Place.{Place}
use Rattle.impact_shrink.specs.Real.{IsReal}
use Rattle.impact_shrink.specs.Small.{over, IsNeeded, IsPart, IsSmall}

abbrev pub places_in : ℕ → List ℕ → List Place
places_in m ids = map (λ id. record { model = m; id = id }) ids

-- the records of these models
abbrev pub places_of : Database → List ℕ → List Place
places_of d [] = []
places_of d (m ∷ models) = places_in m (ids_of d m) ++ places_of d models

-- each record of the database is one of these
abbrev pub HasAll : Database → List Place → Type 0
HasAll d places = (m id : ℕ) → has_record d m id ≡ true → Contains places (record { model = m; id = id })

module _ (t : Script) (w : Witness) where
  -- the record is needed, if it is there
  abbrev pub IsNeededIn : Database → Place → Type 0
  IsNeededIn d place = has_record d place.model place.id ≡ true → IsNeeded t (over w d) place.model place.id

  -- A record was tried: it is needed, and all is as it was; or it was dropped.
  pub data IsTried (place : Place) (before after : Left) : Type 0 where
    Stays : after ≡ before → IsNeededIn before.base place → IsTried place before after
    Goes : after.dropped ≡ true → IsReal t (over w after.base) → IsPart after.base before.base → record_count after.base < record_count before.base → IsTried place before after

  -- These records of a database were tried, and this is left: where nothing was dropped, each of them is needed.
  pub record IsLeft (whole : Database) (tried : List Place) (left : Left) : Type 0 where
    pub real : IsReal t (over w left.base)
    pub part : IsPart left.base whole
    pub fewer : left.dropped ≡ true → record_count left.base < record_count whole
    pub needed : left.dropped ≡ false → (left.base ≡ whole) × All (IsNeededIn whole) tried

  -- All records were tried, and this is left: where nothing was dropped, the witness is small over it.
  pub record IsRound (whole : Database) (left : Left) : Type 0 where
    pub real : IsReal t (over w left.base)
    pub part : IsPart left.base whole
    pub fewer : left.dropped ≡ true → record_count left.base < record_count whole
    pub no_more : record_count left.base ≤ record_count whole
    pub small : left.dropped ≡ false → IsSmall t (over w left.base)

  -- So it stands after some rounds.
  pub record IsAfterRounds (whole : Database) (left : Left) : Type 0 where
    pub real : IsReal t (over w left.base)
    pub part : IsPart left.base whole
    pub small : left.dropped ≡ false → IsSmall t (over w left.base)

-- how many records are left, and one more where a round is due
abbrev pub rounds_left : Left → ℕ
rounds_left left = record_count left.base + (if left.dropped then 1 else 0)
