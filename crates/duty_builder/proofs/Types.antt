-- The type of a field.
use Rattle.std.proofs.Common.{◌≡◌, ℕ, Bool, true, false, refl, sym, ◌∙◌, List, [], ◌∷◌, ap}
use Rattle.std.specs.Prelude.{map, Option, Some, None, find, ◌==◌, if◌then◌else◌, option_and_then}
use Rattle.std.specs.Option.{option_map}
use Rattle.type_schema.specs.declared.schemas.FieldInfo as code_field
use Rattle.type_schema.specs.declared.schemas.ModelInfo as code_model
use Rattle.type_schema.specs.declared.schemas.Schema as code_schema
use Rattle.type_schema.specs.Schema.{FieldInfo, ModelInfo, model_of, field_in, type_of}
use Rattle.type_schema.specs.SchemaViews.{field_info_of, model_info_of, schema_of}

find-map : {A B : Type 0} (v : A → B) (p : B → Bool) (xs : List A) → find p (map v xs) ≡ option_map v (find (λ x. p (v x)) xs)
find-map v p [] = refl
find-map v p (x ∷ xs) =
    elim (p (v x)) as (λ b. (if b then Some (v x) else find p (map v xs)) ≡ option_map v (if b then Some x else find (λ x. p (v x)) xs)) [
      | true ↦ refl
      | false ↦ find-map v p xs
    ]

model_found : (s : code_schema.Schema) (m : ℕ) (found : Option code_model.ModelInfo) → found ≡ find (λ x. x.number == m) s.models
    → model_of (schema_of s) m ≡ option_map model_info_of found
model_found s m found e = find-map model_info_of (λ (x : ModelInfo). x.number == m) s.models ∙ ap (option_map model_info_of) (sym e)

field_found : (i : code_model.ModelInfo) (f : ℕ) (found : Option code_field.FieldInfo) → found ≡ find (λ x. x.number == f) i.fields
    → field_in (model_info_of i).fields f ≡ option_map field_info_of found
field_found i f found e = find-map field_info_of (λ (x : FieldInfo). x.number == f) i.fields ∙ ap (option_map field_info_of) (sym e)

pub type_without : (s : code_schema.Schema) (m f : ℕ) → None ≡ find (λ x. x.number == m) s.models → type_of (schema_of s) m f ≡ None
type_without s m f e =
    ap (λ o. option_map (λ (info : FieldInfo). info.ty) (option_and_then (λ (info : ModelInfo). field_in info.fields f) o)) (model_found s m None e)

pub type_within : (s : code_schema.Schema) (m f : ℕ) (i : code_model.ModelInfo) → Some i ≡ find (λ x. x.number == m) s.models
    → type_of (schema_of s) m f ≡ option_map (λ (x : code_field.FieldInfo). x.ty) (find (λ x. x.number == f) i.fields)
type_within s m f i e =
    ap (λ o. option_map (λ (info : FieldInfo). info.ty) (option_and_then (λ (info : ModelInfo). field_in info.fields f) o)) (model_found s m (Some i) e)
    ∙ (ap (option_map (λ (info : FieldInfo). info.ty)) (field_found i f (find (λ x. x.number == f) i.fields) refl) ∙ both_maps (find (λ x. x.number == f) i.fields))
  where
    both_maps : (o : Option code_field.FieldInfo) → option_map (λ (info : FieldInfo). info.ty) (option_map field_info_of o) ≡ option_map (λ (x : code_field.FieldInfo). x.ty) o
    both_maps None = refl
    both_maps (Some x) = refl
