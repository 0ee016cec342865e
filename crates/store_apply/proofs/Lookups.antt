-- What is not found among the models and fields of the code is not in the plain data of the schema.
use Rattle.std.proofs.Common.{◌≡◌, ◌==◌, ℕ, Bool, true, false, cond, List, [], ◌∷◌, map, refl, ap, subst}
use Rattle.std.specs.Prelude.{Option, None, Some, IsTrue, is_some, option_and_then}
use Rattle.std.specs.List.{find}
use Rattle.type_schema.specs.declared.schemas.FieldInfo as code_field
use Rattle.type_schema.specs.declared.schemas.ModelInfo as code_model
use Rattle.type_schema.specs.declared.schemas.Schema as code_schema
use Rattle.type_schema.specs.Schema.{FieldInfo, ModelInfo, field_in}
use Rattle.type_schema.specs.SchemaViews.{field_info_of, model_info_of, schema_of}
use Rattle.type_schema.specs.Commands.{HasField}
use Rattle.type_schema.specs.Typing.{HasModel}

none-seen : {A B : Type 0} (f : A → B) (p : B → Bool) (xs : List A) → None ≡ find (λ x. p (f x)) xs → find p (map f xs) ≡ None
none-seen f p [] is = refl
none-seen {A} {B} f p (x ∷ xs) is = at (p (f x)) (none-seen f p xs) is
  where
    at : (b : Bool) → (None ≡ find (λ y. p (f y)) xs → find p (map f xs) ≡ None) → None ≡ cond b (Some x) (find (λ y. p (f y)) xs) → cond b (Some (f x)) (find p (map f xs)) ≡ None
    at true rest e = absurd (cc e)
    at false rest e = rest e

some-seen : {A B : Type 0} (f : A → B) (p : B → Bool) (xs : List A) (i : A) → Some i ≡ find (λ x. p (f x)) xs → find p (map f xs) ≡ Some (f i)
some-seen f p [] i is = absurd (cc is)
some-seen {A} {B} f p (x ∷ xs) i is = at (p (f x)) (some-seen f p xs i) is
  where
    at : (b : Bool) → (Some i ≡ find (λ y. p (f y)) xs → find p (map f xs) ≡ Some (f i)) → Some i ≡ cond b (Some x) (find (λ y. p (f y)) xs) → cond b (Some (f x)) (find p (map f xs)) ≡ Some (f i)
    at true rest e = let same : x ≡ i = cc e in ap (λ (y : A). Some (f y)) same
    at false rest e = rest e

pub no-model : (s : code_schema.Schema) (m : ℕ) → None ≡ find (λ (i : code_model.ModelInfo). i.number == m) s.models → HasModel (schema_of s) m → ⊥
no-model s m none has =
    let never : false ≡ true = subst (λ (o : Option ModelInfo). IsTrue (is_some o)) (none-seen model_info_of (λ (i : ModelInfo). i.number == m) s.models none) has in
    cc

abbrev field-among : ℕ → Option ModelInfo → Option FieldInfo
field-among f o = option_and_then (λ (i : ModelInfo). field_in i.fields f) o

pub no-field-of : (s : code_schema.Schema) (m f : ℕ) → None ≡ find (λ (i : code_model.ModelInfo). i.number == m) s.models → HasField (schema_of s) m f → ⊥
no-field-of s m f none has =
    let never : false ≡ true
    = subst (λ (o : Option ModelInfo). IsTrue (is_some (field-among f o))) (none-seen model_info_of (λ (i : ModelInfo). i.number == m) s.models none) has in
    cc

pub no-field : (s : code_schema.Schema) (m f : ℕ) (i : code_model.ModelInfo) → Some i ≡ find (λ (j : code_model.ModelInfo). j.number == m) s.models
    → None ≡ find (λ (g : code_field.FieldInfo). g.number == f) i.fields → HasField (schema_of s) m f → ⊥
no-field s m f i there none has =
    let here : IsTrue (is_some (field_in (model_info_of i).fields f))
    = subst (λ (o : Option ModelInfo). IsTrue (is_some (field-among f o))) (some-seen model_info_of (λ (j : ModelInfo). j.number == m) s.models i there) has in
    let never : false ≡ true = subst (λ (o : Option FieldInfo). IsTrue (is_some o)) (none-seen field_info_of (λ (g : FieldInfo). g.number == f) i.fields none) here in
    cc
