-- Small witnesses: real ones of which no single record can be dropped.
use Rattle.std.specs.Prelude.{◌≡◌, ℕ, true, map}
use Rattle.type_schema.specs.Script.{Script}
use Rattle.data_meaning.specs.Database.{Table, Database, has_record, slots_of}
use Rattle.data_records.specs.Removed.{without_record}
use Rattle.check_witness.specs.Witness.{Witness}
use Rattle.impact_shrink.specs.Real.{IsReal}

-- the witness with another start database
abbrev pub over : Witness → Database → Witness
over w d = record w { base = d }

-- Without the record the base is no start database, as where another record names it, or the witness is not real over it.
abbrev pub IsNeeded : Script → Witness → ℕ → ℕ → Type 0
IsNeeded t w m id = IsReal t (over w (without_record m id w.base)) → ⊥

-- The witness is real, and each record of its base is needed.
pub record IsSmall (t : Script) (w : Witness) : Type 0 where
  pub real : IsReal t w
  pub needed : (m id : ℕ) → has_record w.base m id ≡ true → IsNeeded t w m id

-- The database has the tables of the other, and its records are records of the other, with the same values.
pub record IsPart (part whole : Database) : Type 0 where
  pub tables : map (λ (t : Table). t.model) part ≡ map (λ (t : Table). t.model) whole
  pub records : (m id : ℕ) → has_record part m id ≡ true → (has_record whole m id ≡ true) × (slots_of part m id ≡ slots_of whole m id)

-- The one witness is the other over a part of its base.
pub record IsPartOf (part whole : Witness) : Type 0 where
  pub same : part ≡ over whole part.base
  pub base : IsPart part.base whole.base
