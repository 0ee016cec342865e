-- What marks are good for, and where an added field ends.
use Rattle.std.specs.Prelude.{◌≡◌, ◌<◌, ℕ, true, false, Some, List}
use Rattle.std.specs.List.{AllByRecursion}
use Rattle.type_schema.specs.declared.types.TTy.{TTy}
use Rattle.type_schema.specs.Schema.{Added, type_of}
use Rattle.type_schema.specs.Script.{Script, count, schema_at, IsScript}
use Rattle.type_schema.specs.Uses.{Use, init_uses_of}
use Rattle.data_meaning.specs.Database.{Database, has_record, field_at, IsDatabase, HasNoFurtherTables}
use Rattle.data_meaning.specs.Touched.{init_touched}
use Rattle.data_meaning.specs.Run.{init_value, run_to, widened}
use Rattle.data_meaning.specs.Gain.{IsStart}
use Rattle.online_meaning.specs.Deep.{added_at, deep_cells}
use Rattle.online_meaning.specs.Marks.{is_among}
use Rattle.online_meaning.specs.Events.{Event, IsAccepted, changed_by, marks_of}

-- On two databases the record is there when the command behind the first k comes, and the initialiser gives the same at it and reads the
-- same cells deeply.
pub record ReadsAlike (t : Script) (d e : Database) (k : ℕ) (a : Added) (id : ℕ) : Type 0 where
  pub there : has_record (run_to t k (widened t d)) a.model id ≡ true
  pub value : init_value (run_to t k (widened t d)) a.init id ≡ init_value (run_to t k (widened t e)) a.init id
  pub cells : deep_cells t d k a.init id ≡ deep_cells t e k a.init id

-- the law of marks: a record that an event leaves, and does not mark, reads alike before and after it
abbrev pub MarksSuffice : Type 0
MarksSuffice =
    (t : Script) → IsScript t → (d : Database) → IsDatabase (schema_at t 0) d → HasNoFurtherTables (schema_at t 0) d → (e : Event) → IsAccepted (schema_at t 0) d e
    → (k : ℕ) (a : Added) → added_at t k ≡ Some a → (id : ℕ) → has_record (run_to t k (widened t (changed_by (schema_at t 0) e d))) a.model id ≡ true
    → is_among (record { model = a.model; id = id }) (marks_of t e d) ≡ false → ReadsAlike t d (changed_by (schema_at t 0) e d) k a id

-- What the initialiser of the command behind the first k gave a record is what the last database holds there, where the last schema has
-- the field.
abbrev pub AddedStay : Type 0
AddedStay =
    (t : Script) → IsScript t → (d : Database) → IsStart t d → (k : ℕ) (a : Added) → added_at t k ≡ Some a → (ty : TTy)
    → type_of (schema_at t (count t)) a.model a.field ≡ Some ty → (id : ℕ) → has_record (run_to t (count t) d) a.model id ≡ true
    → field_at (run_to t (count t) d) a.model id a.field ≡ init_value (run_to t k d) a.init id

-- the fields have numbers that the schema before the script gave
abbrev pub AreOldFields : Script → List Use → Type 0
AreOldFields t us = AllByRecursion (λ (u : Use). u.field < (schema_at t 0).next_field) us

-- An initialiser that uses fields of the schema before the script alone reads the database before it as it stands: what it gives there is
-- what it gives when its command comes, and what it touches there is what it reads deeply.
abbrev pub OldFieldsAreRead : Type 0
OldFieldsAreRead =
    (t : Script) → IsScript t → (d : Database) → IsDatabase (schema_at t 0) d → HasNoFurtherTables (schema_at t 0) d → (k : ℕ) (a : Added) → added_at t k ≡ Some a
    → AreOldFields t (init_uses_of a.init) → (id : ℕ) → has_record (run_to t k (widened t d)) a.model id ≡ true
    → (init_value (run_to t k (widened t d)) a.init id ≡ init_value d a.init id) × (deep_cells t d k a.init id ≡ init_touched d a.init id)
