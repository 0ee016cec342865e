-- Where the initialisers of a script are evaluated while the database stands as it is.
use Rattle.std.specs.Prelude.{◌≡◌, ◌<◌, ◌+◌, ℕ, zero, suc, ◌==◌, cond, List, [], ◌∷◌, length, slice_index_or, Option, None, Some, if◌then◌else◌}
use Rattle.std.specs.List.{AllByRecursion}
use Rattle.std.specs.Option.{option_map_or}
use Rattle.type_schema.specs.Schema.{Added}
use Rattle.type_schema.specs.Commands.{Command}
use Rattle.type_schema.specs.Script.{Script, count}
use Rattle.type_schema.specs.Uses.{Use, init_uses_of}
use Rattle.data_meaning.specs.Values.{Value}
use Rattle.data_meaning.specs.Database.{Database}
use Rattle.data_meaning.specs.Run.{init_value, run_to, widened}
use Rattle.online_queue.specs.declared.records.RecordId.{RecordId}
use Rattle.online_counted.specs.Counted.{risen}
use Rattle.online_meaning.specs.Deep.{added_by, added_at}
use Rattle.online_meaning.specs.Laws.{AreOldFields}

-- The database before each command; or nothing, where each initialiser can be evaluated on the database as it stands.
abbrev pub Grounds : Type 0
Grounds = Option (List Database)

-- the databases are those; or no initialiser uses a field that the script adds
abbrev pub AreGrounds : Script → Database → Grounds → Type 0
AreGrounds t d None = (k : ℕ) (a : Added) → added_at t k ≡ Some a → AreOldFields t (init_uses_of a.init)
AreGrounds t d (Some runs) = (length runs ≡ count t) × ((k : ℕ) → k < count t → slice_index_or runs k [] ≡ run_to t k (widened t d))

-- there is a place to evaluate the initialiser of the command behind the first k
abbrev pub IsWithin : Grounds → ℕ → Type 0
IsWithin None k = Unit {0}
IsWithin (Some runs) k = k < length runs

-- where the initialiser of the command behind the first k is evaluated
abbrev pub ground_at : Grounds → Database → ℕ → Database
ground_at None d k = d
ground_at (Some runs) d k = slice_index_or runs k []

-- the fields have numbers below this one
abbrev pub AreBelow : ℕ → List Use → Type 0
AreBelow next uses = AllByRecursion (λ (u : Use). u.field < next) uses

-- the field that the command adds, if it adds one, is made from such fields
abbrev pub AddsPlain : ℕ → Command → Type 0
AddsPlain next c = (a : Added) → added_by c ≡ Some a → AreBelow next (init_uses_of a.init)

-- what the initialiser of the command gives at the record, if the command adds a field to its model
abbrev pub value_by : Command → Database → RecordId → List Value
value_by c d r = option_map_or (λ (a : Added). if a.model == r.model then init_value d a.init r.id ∷ [] else []) (added_by c) []

-- a count that rises so often
abbrev pub rises : ℕ → ℕ → ℕ
rises zero n = n
rises (suc k) n = risen (rises k n)

-- how many of the first n commands add a field to the model
abbrev pub adds_before : Script → ℕ → ℕ → ℕ
adds_before t m zero = 0
adds_before t m (suc n) = adds_before t m n + option_map_or (λ (a : Added). cond (a.model == m) 1 0) (added_at t n) 0
