-- A name as the code finds it, and in the plain data of a schema.
use Rattle.std.proofs.Common.{◌≡◌, ◌==◌, ℕ, Bool, true, false, cond, List, [], ◌∷◌, map, refl, sym, ap, ◌∙◌}
use Rattle.std.specs.Prelude.{Option, Some, option_and_then}
use Rattle.std.specs.List.{find}
use Rattle.std.specs.Option.{option_map_or}
use Rattle.type_schema.specs.declared.schemas.StaticInfo as code_static
use Rattle.type_schema.specs.declared.schemas.FieldInfo as code_field
use Rattle.type_schema.specs.declared.schemas.ModelInfo as code_model
use Rattle.type_schema.specs.declared.schemas.Schema as code_schema
use Rattle.type_schema.specs.Trees.{Name}
use Rattle.type_schema.specs.Schema.{StaticInfo, FieldInfo, ModelInfo, field_in}
use Rattle.type_schema.specs.SchemaViews.{static_info_of, field_info_of, model_info_of, schema_of}
use Rattle.type_anew.specs.Names.{names_in}

-- what is found in a list seen through f, and read by g
find-seen : {A B C : Type 0} (f : A → B) (g : B → C) (d : C) (p : B → Bool) (xs : List A) → option_map_or g (find p (map f xs)) d ≡ option_map_or (λ x. g (f x)) (find (λ x. p (f x)) xs) d
find-seen f g d p [] = refl
find-seen {A} {B} {C} f g d p (x ∷ xs) =
    elim (p (f x)) as (λ b. option_map_or g (cond b (Some (f x)) (find p (map f xs))) d ≡ option_map_or (λ (y : A). g (f y)) (cond b (Some x) (find (λ y. p (f y)) xs)) d)
    [ true ↦ refl | false ↦ find-seen f g d p xs ]

pub model-name : (s : code_schema.Schema) (m : ℕ) (found : code_model.ModelInfo) → Some found ≡ find (λ (i : code_model.ModelInfo). i.number == m) s.models → found.name ≡ (names_in (schema_of s)).model m
model-name s m found is =
    ap (λ (o : Option code_model.ModelInfo). option_map_or (λ (i : code_model.ModelInfo). i.name) o []) is ∙ sym (find-seen model_info_of (λ (i : ModelInfo). i.name) [] (λ (i : ModelInfo). i.number == m) s.models)

pub static-name : (s : code_schema.Schema) (n : ℕ) (found : code_static.StaticInfo) → Some found ≡ find (λ (i : code_static.StaticInfo). i.number == n) s.statics → found.name ≡ (names_in (schema_of s)).static n
static-name s n found is =
    ap (λ (o : Option code_static.StaticInfo). option_map_or (λ (i : code_static.StaticInfo). i.name) o []) is ∙ sym (find-seen static_info_of (λ (i : StaticInfo). i.name) [] (λ (i : StaticInfo). i.number == n) s.statics)

abbrev name-in : ℕ → Option ModelInfo → Name
name-in f o = option_map_or (λ (g : FieldInfo). g.name) (option_and_then (λ (i : ModelInfo). field_in i.fields f) o) []

model-seen : (m : ℕ) (xs : List code_model.ModelInfo) (i : code_model.ModelInfo) → Some i ≡ find (λ (j : code_model.ModelInfo). j.number == m) xs → find (λ (j : ModelInfo). j.number == m) (map model_info_of xs) ≡ Some (model_info_of i)
model-seen m [] i is = let never : ⊥ = cc in absurd never
model-seen m (x ∷ xs) i is = at (x.number == m) (model-seen m xs i) is
  where
    at : (b : Bool) → (Some i ≡ find (λ (j : code_model.ModelInfo). j.number == m) xs → find (λ (j : ModelInfo). j.number == m) (map model_info_of xs) ≡ Some (model_info_of i)) → Some i ≡ cond b (Some x) (find (λ (j : code_model.ModelInfo). j.number == m) xs)
        → cond b (Some (model_info_of x)) (find (λ (j : ModelInfo). j.number == m) (map model_info_of xs)) ≡ Some (model_info_of i)
    at true rest e = let same : x ≡ i = cc in ap (λ (j : code_model.ModelInfo). Some (model_info_of j)) same
    at false rest e = rest e

pub field-name : (s : code_schema.Schema) (m f : ℕ) (i : code_model.ModelInfo) (g : code_field.FieldInfo)
    → Some i ≡ find (λ (j : code_model.ModelInfo). j.number == m) s.models → Some g ≡ find (λ (h : code_field.FieldInfo). h.number == f) i.fields → g.name ≡ (names_in (schema_of s)).field m f
field-name s m f i g there is =
    ap (λ (o : Option code_field.FieldInfo). option_map_or (λ (h : code_field.FieldInfo). h.name) o []) is
    ∙ sym (find-seen field_info_of (λ (h : FieldInfo). h.name) [] (λ (h : FieldInfo). h.number == f) i.fields)
    ∙ sym (ap (name-in f) (model-seen m s.models i there))
