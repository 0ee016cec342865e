-- Online migrations: lists of events, and what is stored after the switch.
use Rattle.std.specs.Prelude.{◌≡◌, ◌⊎◌, ◌==◌, ℕ, zero, suc, ◌+◌, Bool, true, false, List, [], ◌∷◌, ◌++◌, Option, None, Some, take, if◌then◌else◌, count_by, sum_by}
use Rattle.std.specs.List.{AllByRecursion, IsDistinct}
use Rattle.std.specs.Option.{option_map_or}
use Rattle.type_schema.specs.Schema.{Added}
use Rattle.type_schema.specs.Commands.{Command, create_model, delete_model, add_static, remove_static, add_principal, add_field, remove_field, update_field, weaken_field, update_model, weaken_model}
use Rattle.type_schema.specs.Script.{Script, count, schema_at, command_at, IsScript}
use Rattle.data_meaning.specs.Values.{Value, Nothing}
use Rattle.data_meaning.specs.Database.{Record, Database, ids_of, has_record, IsDatabase, HasNoFurtherTables}
use Rattle.data_meaning.specs.Run.{init_value, change_slots, after_command, run_to, widened}
use Rattle.online_meaning.specs.Deep.{added_by, added_at}
use Rattle.online_meaning.specs.Marks.{RecordId, same_record, is_among, slow_records}
use Rattle.online_meaning.specs.Events.{Event, batch, put, make, erase, switch, IsAccepted, changed_by, marked_after}

-- The database, the queue of marked records, what the initialiser of the command behind the first k gave at the record with an id when
-- its batch came, and after the switch the database that it made.
pub record Rollout : Type 0 where
  pub database : Database
  pub queue : List RecordId
  pub kept : ℕ → ℕ → Value
  pub result : Option Database

-- all slow records are marked at first
abbrev pub begun : Script → Database → Rollout
begun t d = record { database = d; queue = slow_records t d; kept = λ k id. Nothing; result = None }

abbrev pub is_marked : Rollout → ℕ → ℕ → Bool
is_marked r m id = is_among (record { model = m; id = id }) r.queue

-- ---- the switch

-- The database after a command, where an initialiser is evaluated at marked records alone; at any other the field holds what was kept.
abbrev pub after_kept : (ℕ → ℕ → Bool) → (ℕ → Value) → Command → Database → Database
after_kept is_marked kept (create_model m) d = after_command (create_model m) d
after_kept is_marked kept (delete_model m) d = after_command (delete_model m) d
after_kept is_marked kept (add_static n) d = after_command (add_static n) d
after_kept is_marked kept (remove_static n) d = after_command (remove_static n) d
after_kept is_marked kept (add_principal m) d = after_command (add_principal m) d
after_kept is_marked kept (add_field m f init) d =
    change_slots m (λ (r : Record). r.slots ++ (record { field = f.number; value = if is_marked m r.id then init_value d init r.id else kept r.id }) ∷ []) d
after_kept is_marked kept (remove_field m f) d = after_command (remove_field m f) d
after_kept is_marked kept (update_field m f read write) d = after_command (update_field m f read write) d
after_kept is_marked kept (weaken_field m f read write reason) d = after_command (weaken_field m f read write reason) d
after_kept is_marked kept (update_model m create delete) d = after_command (update_model m create delete) d
after_kept is_marked kept (weaken_model m create delete reason) d = after_command (weaken_model m create delete reason) d

module _ (t : Script) where
  -- the database after k commands, made so
  abbrev pub switched : Rollout → ℕ → Database
  switched r zero = widened t r.database
  switched r (suc k) = option_map_or (λ c. after_kept (is_marked r) (r.kept k) c (switched r k)) (command_at t k) (switched r k)

  -- how many fields the script adds to the model, and how often a switch evaluates an initialiser where these records are marked
  abbrev pub added_count : ℕ → ℕ
  added_count m = count_by (λ c. option_map_or (λ (a : Added). a.model == m) (added_by c) false) t.commands

  abbrev pub evaluations : List RecordId → ℕ
  evaluations queue = sum_by (λ (r : RecordId). added_count r.model) queue

  -- how often the first k commands of a switch evaluate one: at each marked record that is there then
  abbrev pub evaluated : Rollout → ℕ → ℕ
  evaluated r zero = 0
  evaluated r (suc k) =
      evaluated r k + option_map_or (λ (a : Added). count_by (λ id. is_marked r a.model id) (ids_of (switched r k) a.model)) (added_at t k) 0

  -- ---- events

  -- a batch evaluates the initialisers at its records
  abbrev pub kept_after : Event → Rollout → ℕ → ℕ → Value
  kept_after (batch size) r = λ k id.
      option_map_or (λ (a : Added). if is_among (record { model = a.model; id = id }) (take size r.queue) then init_value (run_to t k (widened t r.database)) a.init id else r.kept k id)
      (added_at t k) (r.kept k id)
  kept_after (put m id f v) r = r.kept
  kept_after (make m row) r = r.kept
  kept_after (erase m id) r = r.kept
  kept_after switch r = r.kept

  abbrev pub result_after : Event → Rollout → Option Database
  result_after (batch size) r = r.result
  result_after (put m id f v) r = r.result
  result_after (make m row) r = r.result
  result_after (erase m id) r = r.result
  result_after switch r = Some (switched r (count t))

  abbrev pub after_event : Event → Rollout → Rollout
  after_event e r = record {
    database = changed_by (schema_at t 0) e r.database;
    queue = marked_after t e r.database r.queue;
    kept = kept_after e r;
    result = result_after e r;
  }

  -- the change is not refused, and no switch came
  pub record IsTaken (r : Rollout) (e : Event) : Type 0 where
    pub going_on : r.result ≡ None
    pub accepted : IsAccepted (schema_at t 0) r.database e

  -- Goes from one state to another through events; one that is refused leaves it as it is.
  abbrev pub Goes : Rollout → List Event → Rollout → Type 0
  Goes r [] last = last ≡ r
  Goes r (e ∷ events) last = (IsTaken r e × Goes (after_event e r) events last) ⊎ Goes r events last

  -- ---- what holds of it

  pub record IsRight (r : Rollout) : Type 0 where
    -- the database is one over the schema before the script
    pub over : IsDatabase (schema_at t 0) r.database
    pub only : HasNoFurtherTables (schema_at t 0) r.database
    -- each marked record is slow and there, and none is marked twice
    pub slow : AllByRecursion (λ q. is_among q (slow_records t r.database) ≡ true) r.queue
    pub once : IsDistinct same_record r.queue
    -- what was kept at a record that is not marked, and is there when the command comes, is what the initialiser gives there
    pub ready : (k : ℕ) (a : Added) → added_at t k ≡ Some a → (id : ℕ) → has_record (run_to t k (widened t r.database)) a.model id ≡ true
        → is_marked r a.model id ≡ false → r.kept k id ≡ init_value (run_to t k (widened t r.database)) a.init id
    -- what the switch made is what the script means on the database
    pub result : (made : Database) → r.result ≡ Some made → made ≡ run_to t (count t) (widened t r.database)

-- The law of online migrations: after every list of events the queue is one of slow records, each once, what is kept is right, and where
-- the switch came, what it made is the script's meaning on the database as it stood then.
abbrev pub RolloutsEndRight : Type 0
RolloutsEndRight =
    (t : Script) → IsScript t → (d : Database) → IsDatabase (schema_at t 0) d → HasNoFurtherTables (schema_at t 0) d → (events : List Event) (last : Rollout)
    → Goes t (begun t d) events last → IsRight t last

-- The law of what a switch evaluates: once for each marked record and each field that the script adds to its model.
abbrev pub SwitchesEvaluateMarked : Type 0
SwitchesEvaluateMarked = (t : Script) → IsScript t → (r : Rollout) → IsRight t r → evaluated t r (count t) ≡ evaluations t r.queue
