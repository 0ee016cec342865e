-- Secure scripts.
use Rattle.std.specs.Prelude.{◌≡◌, ℕ, true, false, Contains}
use Rattle.type_schema.specs.declared.rights.Right.{Right}
use Rattle.type_schema.specs.declared.rights.Right.TheVariants.{Read}
use Rattle.type_schema.specs.declared.rights.Target.{Target}
use Rattle.type_schema.specs.declared.rights.Target.TheVariants as on
use Rattle.type_schema.specs.Trees.{Init}
use Rattle.type_schema.specs.Schema.{FieldInfo}
use Rattle.type_schema.specs.Script.{Script, schema_at, count, IsScript}
use Rattle.data_meaning.specs.declared.principals.Principal.{Principal}
use Rattle.data_meaning.specs.Database.{Database, has_record}
use Rattle.data_meaning.specs.declared.cells.Cell.{Cell}
use Rattle.data_meaning.specs.Touched.{init_touched}
use Rattle.data_meaning.specs.Run.{run_to}
use Rattle.data_meaning.specs.Gain.{IsStart, is_principal_at, has_right_at, is_weakened, GainAt, has_target, Gain, may_read_at, AddsAt, FlowAt}

-- The field that command k adds is there at the end, no command weakens its read policy, and the principal may read it at the end on a
-- record that is there.
pub record ReadsAdded (t : Script) (k m : ℕ) (f : FieldInfo) (init : Init) (d : Database) (id : ℕ) (q : Principal) : Type 0 where
  pub start : IsStart t d
  pub adds : AddsAt t k m f init
  pub stays : has_target (schema_at t (count t)) (on.Field m f.number) ≡ true
  pub not_weakened : is_weakened t (on.Field m f.number) Read ≡ false
  pub record_there : has_record (run_to t (count t) d) m id ≡ true
  pub principal : is_principal_at t (count t) (run_to t (count t) d) q ≡ true
  pub reads : has_right_at t (count t) (on.Field m f.number) Read d id q ≡ true

-- Nobody gains a right on anything that survives unless a command weakens it, and who may read an added field at the end could read,
-- after the command that added it, each cell that its initialiser touched.
pub record IsSecure (t : Script) : Type 0 where
  pub no_gain : (target : Target) (right : Right) → is_weakened t target right ≡ false → (d : Database) (id : ℕ) (q : Principal) → Gain t target right d id q → ⊥
  pub no_flow : (k m : ℕ) (f : FieldInfo) (init : Init) (d : Database) (id : ℕ) (q : Principal) → ReadsAdded t k m f init d id q
      → (cell : Cell) → Contains (init_touched (run_to t k d) init id) cell → may_read_at t k d cell q ≡ true

-- No command gains anybody a right that it updates, and no added field leaks.
pub record IsStepSecure (t : Script) : Type 0 where
  pub no_gain : (k : ℕ) (target : Target) (right : Right) (d : Database) (id : ℕ) (q : Principal) → GainAt t k target right d id q → ⊥
  pub no_flow : (k : ℕ) (d : Database) (id : ℕ) (q : Principal) (cell : Cell) → FlowAt t k d id q cell → ⊥

-- the law from steps to the whole script
abbrev pub StepsSecureWhole : Type 0
StepsSecureWhole = (t : Script) → IsScript t → IsStepSecure t → IsSecure t
