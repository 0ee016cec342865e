-- What may be known of a slow record while a database changes: which cells it reads deeply, and what the initialisers give.
use Rattle.std.specs.Prelude.{◌≡◌, ℕ, zero, suc, ◌+◌, ◌==◌, true, false, List, [], ◌∷◌, ◌++◌, Option, Some, length, take, drop, if◌then◌else◌}
use Rattle.std.specs.List.{list_any}
use Rattle.std.specs.Option.{option_map_or}
use Rattle.type_schema.specs.Schema.{Added, ModelInfo}
use Rattle.type_schema.specs.Script.{Script, count, schema_at, IsScript}
use Rattle.data_meaning.specs.declared.cells.Cell.{Cell}
use Rattle.data_meaning.specs.Values.{Value}
use Rattle.data_meaning.specs.Database.{Database, ids_of, IsDatabase, HasNoFurtherTables}
use Rattle.data_meaning.specs.Run.{init_value, run_to, widened}
use Rattle.data_records.specs.Inserted.{next_of}
use Rattle.online_meaning.specs.Deep.{added_at}
use Rattle.online_meaning.specs.Marks.{RecordId, is_among, is_slow, same_cell, reads_deeply, slow_records, without}
use Rattle.online_meaning.specs.Events.{Event, batch, put, make, erase, switch, IsAccepted, changed_by, marks_of}

module _ (t : Script) (d : Database) (r : RecordId) where
  -- what the initialisers of the fields that the first n commands add to the model give at the record, each when its command comes
  abbrev pub added_values : ℕ → List Value
  added_values zero = []
  added_values (suc k) =
      added_values k ++ option_map_or (λ (a : Added). if a.model == r.model then init_value (run_to t k (widened t d)) a.init r.id ∷ [] else []) (added_at t k) []

  -- what is known of the record is so, of either whatever there is
  pub record IsKnown (read : Option (List Cell)) (given : Option (List Value)) : Type 0 where
    pub reads : (cells : List Cell) → read ≡ Some cells → (cell : Cell) → list_any (λ c. same_cell c cell) cells ≡ reads_deeply t d r cell
    pub values : (all : List Value) → given ≡ Some all → all ≡ added_values (count t)

-- The law of what is known: it stays so at each record that an event leaves slow and there, and does not mark.
abbrev pub KnowledgeStays : Type 0
KnowledgeStays =
    (t : Script) → IsScript t → (d : Database) → IsDatabase (schema_at t 0) d → HasNoFurtherTables (schema_at t 0) d → (e : Event) → IsAccepted (schema_at t 0) d e
    → (r : RecordId) → is_among r (slow_records t (changed_by (schema_at t 0) e d)) ≡ true → is_among r (marks_of t e d) ≡ false
    → (reads : Option (List Cell)) (values : Option (List Value)) → IsKnown t d r reads values → IsKnown t (changed_by (schema_at t 0) e d) r reads values

-- ---- the slow records after an event

-- how many slow records there are of the models up to this one
abbrev pub places_to : Script → Database → ℕ → List ModelInfo → ℕ
places_to t d m [] = 0
places_to t d m (info ∷ infos) =
    (if is_slow t info.number then length (ids_of d info.number) else 0) + (if info.number == m then 0 else places_to t d m infos)

-- the record made stands behind the others of its model
abbrev pub slow_after : Script → Event → Database → List RecordId → List RecordId
slow_after t (batch size) d records = records
slow_after t (put m id f v) d records = records
slow_after t (make m row) d records =
    if is_slow t m then take (places_to t d m (schema_at t 0).models) records ++ (record { model = m; id = next_of d m }) ∷ drop (places_to t d m (schema_at t 0).models) records
    else records
slow_after t (erase m id) d records = without (record { model = m; id = id }) records
slow_after t switch d records = records

-- the law of slow records after an event
abbrev pub SlowRecordsGo : Type 0
SlowRecordsGo =
    (t : Script) → IsScript t → (d : Database) → IsDatabase (schema_at t 0) d → HasNoFurtherTables (schema_at t 0) d → (e : Event) → IsAccepted (schema_at t 0) d e
    → slow_records t (changed_by (schema_at t 0) e d) ≡ slow_after t e d (slow_records t d)
