-- A widened database has the records of the database.
use Rattle.std.proofs.Common.{◌≡◌, ℕ, Bool, true, false, List, [], ◌∷◌, ◌++◌, refl, ap, map}
use Rattle.std.specs.Prelude.{Option, Some, ◌==◌, if◌then◌else◌}
use Rattle.std.specs.List.{find, list_any}
use Rattle.std.specs.Option.{option_map_or}
use Rattle.type_schema.specs.Schema.{ModelInfo}
use Rattle.type_schema.specs.Script.{Script, created}
use Rattle.data_meaning.specs.Values.{Nothing}
use Rattle.data_meaning.specs.Database.{Slot, Record, Table, Database, records_of, ids_of, has_record, field_at}
use Rattle.data_meaning.specs.Run.{widened}

abbrev empty : ModelInfo → Table
empty i = record { model = i.number; next = 1; records = [] }

abbrev rows : Option Table → List Record
rows o = option_map_or (λ (t : Table). t.records) o []

no-rows : (m : ℕ) (models : List ModelInfo) → records_of (map empty models) m ≡ []
no-rows m [] = refl
no-rows m (i ∷ models) =
    elim (i.number == m) as (λ (b : Bool). rows (if b then Some (empty i) else find (λ (t : Table). t.model == m) (map empty models)) ≡ []) [
      | true ↦ refl
      | false ↦ no-rows m models
    ]

pub same-rows : (m : ℕ) (models : List ModelInfo) (d : Database) → records_of (d ++ map empty models) m ≡ records_of d m
same-rows m models [] = no-rows m models
same-rows m models (t ∷ d) =
    elim (t.model == m) as (λ (b : Bool).
    rows (if b then Some t else find (λ (u : Table). u.model == m) (d ++ map empty models)) ≡ rows (if b then Some t else find (λ (u : Table). u.model == m) d)) [
      | true ↦ refl
      | false ↦ same-rows m models d
    ]

module _ (t : Script) (d : Database) where
  pub wide-rows : (m : ℕ) → records_of (widened t d) m ≡ records_of d m
  wide-rows m = same-rows m (created t.commands) d

  pub wide-ids : (m : ℕ) → ids_of (widened t d) m ≡ ids_of d m
  wide-ids m = ap (map (λ (r : Record). r.id)) (wide-rows m)

  pub wide-has : (m id : ℕ) → has_record (widened t d) m id ≡ has_record d m id
  wide-has m id = ap (list_any (λ i. i == id)) (wide-ids m)

  pub wide-field : (m id f : ℕ) → field_at (widened t d) m id f ≡ field_at d m id f
  wide-field m id f =
      ap (λ rs.
      option_map_or (λ (slot : Slot). slot.value) (find (λ (slot : Slot). slot.field == f)
      (option_map_or (λ (r : Record). r.slots) (find (λ (r : Record). r.id == id) rs) [])) Nothing) (wide-rows m)
