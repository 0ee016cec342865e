-- Commands, and the schema after one.
use Rattle.std.specs.Prelude.{◌≡◌, ℕ, ◌+◌, true, false, not, ◌==◌, IsTrue, is_some, ◌||◌, List, [], ◌∷◌, ◌++◌, Option, None, Some, map, filter, length, if◌then◌else◌}
use Rattle.std.specs.Option.{option_map_or}
use Rattle.text_ast.specs.Words.{IsText}
use Rattle.type_schema.specs.declared.schemas.RemovedField.{RemovedField}
use Rattle.type_schema.specs.Trees.{Policy, Init}
use Rattle.type_schema.specs.Schema.{StaticInfo, FieldInfo, ModelInfo, Schema, model_of, field_of, static_of, is_principal_model}
use Rattle.type_schema.specs.Typing.{HasModel, IsInit}

-- A policy that is not given stays. Of two, read stands before write, and create before delete.
pub data Command : Type 0 where
  create_model : ModelInfo → Command
  delete_model : (model : ℕ) → Command
  add_static : StaticInfo → Command
  remove_static : (static : ℕ) → Command
  add_principal : (model : ℕ) → Command
  add_field : (model : ℕ) → FieldInfo → Init → Command
  remove_field : (model field : ℕ) → Command
  update_field : (model field : ℕ) → (read write : Option Policy) → Command
  weaken_field : (model field : ℕ) → (read write : Option Policy) → (reason : List ℕ) → Command
  update_model : (model : ℕ) → (create delete : Option Policy) → Command
  weaken_model : (model : ℕ) → (create delete : Option Policy) → (reason : List ℕ) → Command

-- ---- the schema after a command

abbrev pub given_or : Option Policy → Policy → Policy
given_or None before = before
given_or (Some policy) before = policy

-- the model of this number changed
abbrev pub change_model : ℕ → (ModelInfo → ModelInfo) → List ModelInfo → List ModelInfo
change_model m change models = map (λ (info : ModelInfo). if info.number == m then change info else info) models

abbrev pub change_field : ℕ → (FieldInfo → FieldInfo) → List FieldInfo → List FieldInfo
change_field f change fields = map (λ (info : FieldInfo). if info.number == f then change info else info) fields

abbrev pub with_field : FieldInfo → ModelInfo → ModelInfo
with_field f info = record info { fields = info.fields ++ f ∷ [] }

abbrev pub without_field : ℕ → ModelInfo → ModelInfo
without_field f info = record info { fields = filter (λ (g : FieldInfo). not (g.number == f)) info.fields }

abbrev pub with_field_policies : ℕ → Option Policy → Option Policy → ModelInfo → ModelInfo
with_field_policies f read write info =
    record info { fields = change_field f (λ (g : FieldInfo). record g { read = given_or read g.read; write = given_or write g.write }) info.fields }

abbrev pub with_model_policies : Option Policy → Option Policy → ModelInfo → ModelInfo
with_model_policies create delete info = record info { create = given_or create info.create; delete = given_or delete info.delete }

-- the fields of the model; none where there is no such model
abbrev pub fields_in : Schema → ℕ → List FieldInfo
fields_in s m = option_map_or (λ (info : ModelInfo). info.fields) (model_of s m) []

-- the field of the model as one that is removed
abbrev pub as_removed : ℕ → FieldInfo → RemovedField
as_removed m f = record { model = m; field = f.number; ty = f.ty }

-- these fields of the model, and what was removed before
abbrev pub removed_with : ℕ → List FieldInfo → List RemovedField → List RemovedField
removed_with m fields before = map (as_removed m) fields ++ before

abbrev pub schema_after : Schema → Command → Schema
schema_after s (create_model info) =
    record s { models = s.models ++ info ∷ []; next_model = s.next_model + 1; next_field = s.next_field + length info.fields }
schema_after s (delete_model m) = record s {
  models = filter (λ (info : ModelInfo). not (info.number == m)) s.models;
  removed = removed_with m (fields_in s m) s.removed;
}
schema_after s (add_static info) = record s { statics = s.statics ++ info ∷ []; next_static = s.next_static + 1 }
schema_after s (remove_static n) = record s { statics = filter (λ (info : StaticInfo). not (info.number == n)) s.statics }
schema_after s (add_principal m) = record s { models = change_model m (λ (info : ModelInfo). record info { principal = true }) s.models }
schema_after s (add_field m f init) = record s {
  models = change_model m (with_field f) s.models;
  next_field = s.next_field + 1;
  added = s.added ++ (record { model = m; field = f.number; init = init }) ∷ [];
}
schema_after s (remove_field m f) = record s {
  models = change_model m (without_field f) s.models;
  removed = removed_with m (filter (λ (g : FieldInfo). g.number == f) (fields_in s m)) s.removed;
}
schema_after s (update_field m f read write) = record s { models = change_model m (with_field_policies f read write) s.models }
schema_after s (weaken_field m f read write reason) = record s { models = change_model m (with_field_policies f read write) s.models }
schema_after s (update_model m create delete) = record s { models = change_model m (with_model_policies create delete) s.models }
schema_after s (weaken_model m create delete reason) = record s { models = change_model m (with_model_policies create delete) s.models }

-- ---- what a command asks of the schema before it

-- the fields have the numbers from n on, in their order
abbrev pub AreNumberedFrom : ℕ → List FieldInfo → Type 0
AreNumberedFrom n [] = Unit {0}
AreNumberedFrom n (f ∷ fields) = (f.number ≡ n) × AreNumberedFrom (n + 1) fields

abbrev pub HasField : Schema → ℕ → ℕ → Type 0
HasField s m f = IsTrue (is_some (field_of s m f))

-- one policy is given, or both are
abbrev pub IsGiven : Option Policy → Option Policy → Type 0
IsGiven one other = IsTrue (is_some one || is_some other)

-- a text that is not empty
abbrev pub IsReason : List ℕ → Type 0
IsReason reason = IsText reason × (reason ≡ [] → ⊥)

-- What the command names is there, and what it adds has the next free numbers. An initialiser is typed over the schema before the
-- command, and so does not see the field; the policies that a command gives are typed with the schema after it.
abbrev pub IsCommand : Schema → Command → Type 0
IsCommand s (create_model info) = (info.number ≡ s.next_model) × AreNumberedFrom s.next_field info.fields
IsCommand s (delete_model m) = HasModel s m
IsCommand s (add_static info) = info.number ≡ s.next_static
IsCommand s (remove_static n) = IsTrue (is_some (static_of s n))
IsCommand s (add_principal m) = HasModel s m × (is_principal_model s m ≡ false)
IsCommand s (add_field m f init) = HasModel s m × (f.number ≡ s.next_field) × IsInit s m f.ty init
IsCommand s (remove_field m f) = HasField s m f
IsCommand s (update_field m f read write) = HasField s m f × IsGiven read write
IsCommand s (weaken_field m f read write reason) = HasField s m f × IsGiven read write × IsReason reason
IsCommand s (update_model m create delete) = HasModel s m × IsGiven create delete
IsCommand s (weaken_model m create delete reason) = HasModel s m × IsGiven create delete × IsReason reason
