-- Schemas.
use Rattle.std.specs.Prelude.{ℕ, Bool, false, ◌&&◌, ◌==◌, List, Option, None, option_and_then}
use Rattle.std.specs.List.{find}
use Rattle.std.specs.Option.{option_map, option_map_or, option_or}
use Rattle.type_schema.specs.declared.types.TTy.{TTy}
use Rattle.type_schema.specs.declared.schemas.RemovedField.{RemovedField}
use Rattle.type_schema.specs.declared.rights.Right.{Right}
use Rattle.type_schema.specs.declared.rights.Right.TheVariants.{Read, Write, Create, Delete}
use Rattle.type_schema.specs.declared.rights.Target.{Target}
use Rattle.type_schema.specs.declared.rights.Target.TheVariants as on
use Rattle.type_schema.specs.Trees.{Name, Policy, Init}

pub record StaticInfo : Type 0 where
  pub number : ℕ
  pub name : Name

pub record FieldInfo : Type 0 where
  pub number : ℕ
  pub name : Name
  pub ty : TTy
  pub read : Policy
  pub write : Policy

pub record ModelInfo : Type 0 where
  pub number : ℕ
  pub name : Name
  -- whether its records are principals
  pub principal : Bool
  pub create : Policy
  pub delete : Policy
  pub fields : List FieldInfo

-- a field that a script added, and its initialiser
pub record Added : Type 0 where
  pub model : ℕ
  pub field : ℕ
  pub init : Init

-- The `next` numbers are free, and so is every number above. `added` has the fields that the script added so far, those removed since
-- among them, and `removed` those that it removed so far, the latest first: initialisers of added fields may read them.
pub record Schema : Type 0 where
  pub statics : List StaticInfo
  pub models : List ModelInfo
  pub next_static : ℕ
  pub next_model : ℕ
  pub next_field : ℕ
  pub added : List Added
  pub removed : List RemovedField

-- ---- look-up by number

abbrev pub model_in : List ModelInfo → ℕ → Option ModelInfo
model_in models m = find (λ info. info.number == m) models

abbrev pub field_in : List FieldInfo → ℕ → Option FieldInfo
field_in fields f = find (λ info. info.number == f) fields

abbrev pub model_of : Schema → ℕ → Option ModelInfo
model_of s m = model_in s.models m

abbrev pub field_of : Schema → ℕ → ℕ → Option FieldInfo
field_of s m f = option_and_then (λ (info : ModelInfo). field_in info.fields f) (model_of s m)

abbrev pub static_of : Schema → ℕ → Option StaticInfo
static_of s n = find (λ info. info.number == n) s.statics

-- the type of a field
abbrev pub type_of : Schema → ℕ → ℕ → Option TTy
type_of s m f = option_map (λ (info : FieldInfo). info.ty) (field_of s m f)

-- the type of a field when a command removed it
abbrev pub removed_type : Schema → ℕ → ℕ → Option TTy
removed_type s m f = option_map (λ (r : RemovedField). r.ty) (find (λ (r : RemovedField). r.model == m && r.field == f) s.removed)

-- the type of a field that the schema has, or had before a command removed it
abbrev pub known_type : Schema → ℕ → ℕ → Option TTy
known_type s m f = option_or (type_of s m f) (removed_type s m f)

-- whether the model is there and marked as principal
abbrev pub is_principal_model : Schema → ℕ → Bool
is_principal_model s m = option_map_or (λ (info : ModelInfo). info.principal) (model_of s m) false

-- ---- policies

abbrev pub model_of_target : Target → ℕ
model_of_target (on.Field m f) = m
model_of_target (on.Model m) = m

-- the policy of a right on its target; a field has none for `Create` and `Delete`, a model none for `Read` and `Write`
abbrev pub policy_in : Schema → Target → Right → Option Policy
policy_in s (on.Field m f) Read = option_map (λ (info : FieldInfo). info.read) (field_of s m f)
policy_in s (on.Field m f) Write = option_map (λ (info : FieldInfo). info.write) (field_of s m f)
policy_in s (on.Field m f) Create = None
policy_in s (on.Field m f) Delete = None
policy_in s (on.Model m) Read = None
policy_in s (on.Model m) Write = None
policy_in s (on.Model m) Create = option_map (λ (info : ModelInfo). info.create) (model_of s m)
policy_in s (on.Model m) Delete = option_map (λ (info : ModelInfo). info.delete) (model_of s m)
