-- Which records a change marks.
use Rattle.std.specs.Prelude.{ℕ, zero, suc, Bool, true, false, ◌&&◌, ◌||◌, ◌==◌, List, [], map, if◌then◌else◌}
use Rattle.std.specs.List.{list_any, flat_map}
use Rattle.std.specs.Option.{option_map_or}
use Rattle.type_schema.specs.Schema.{Added, ModelInfo}
use Rattle.type_schema.specs.Script.{Script, count, schema_at}
use Rattle.data_meaning.specs.declared.cells.Cell.{Cell}
use Rattle.data_meaning.specs.Database.{Database, ids_of}
pub use Rattle.online_queue.specs.declared.records.RecordId.{RecordId}
pub use Rattle.online_queue.specs.Records.{same_record, is_among, without, marked}
use Rattle.online_meaning.specs.Deep.{added_at, deep_cells, deep_finds}

abbrev pub same_cell : Cell → Cell → Bool
same_cell c e = (c.model == e.model) && (c.id == e.id) && (c.field == e.field)

module _ (t : Script) where
  -- whether one of the first n commands adds a field to the model and passes the test, which is told how many commands stand before it
  abbrev pub any_added : (ℕ → Added → Bool) → ℕ → ℕ → Bool
  any_added test m zero = false
  any_added test m (suc k) = any_added test m k || option_map_or (λ (a : Added). (a.model == m) && test k a) (added_at t k) false

  -- a record is slow where a command adds a field to its model
  abbrev pub is_slow : ℕ → Bool
  is_slow m = any_added (λ k a. true) m (count t)

  -- whether an initialiser of a field of the record reads the cell deeply
  abbrev pub reads_deeply : Database → RecordId → Cell → Bool
  reads_deeply d r cell = any_added (λ k a. list_any (λ c. same_cell c cell) (deep_cells t d k a.init r.id)) r.model (count t)

  -- whether an initialiser of a field of the model has a `Find` on model n, itself or behind a field that it uses
  abbrev pub finds_deeply : ℕ → ℕ → Bool
  finds_deeply m n = any_added (λ k a. list_any (λ i. i == n) (deep_finds t k a.init)) m (count t)

  -- the slow records of a database, by model and id
  abbrev pub slow_records : Database → List RecordId
  slow_records d =
      flat_map (λ (info : ModelInfo). if is_slow info.number then map (λ id. record { model = info.number; id = id }) (ids_of d info.number) else [])
      (schema_at t 0).models
