-- The plain data of schemas that grow.
use Rattle.std.proofs.Common.{◌≡◌, Bool, ◌||◌, ℕ, ◌+◌, List, [], ◌∷◌, ◌++◌, length, map, refl, ap, ◌∙◌, sym}
use Rattle.std.specs.Prelude.{Ok, Err}
use Rattle.std.specs.List.{list_any}
use Rattle.std.specs.Str.{bytes_eq}
use Rattle.std.proofs.lemmas.List.{map-append, length-map}
use Rattle.type_schema.specs.declared.schemas.StaticInfo as code_static
use Rattle.type_schema.specs.declared.schemas.ModelInfo as code_model
use Rattle.type_schema.specs.declared.schemas.Schema as code_schema
use Rattle.type_schema.specs.Schema.{StaticInfo, ModelInfo, Schema}
use Rattle.type_schema.specs.SchemaViews.{static_info_of, field_info_of, model_info_of, schema_of}
use Rattle.type_schema.specs.Commands.{add_static, create_model, schema_after}
use Rattle.text_ast.specs.Limits.{most_fields}
use Rattle.text_tree.specs.declared.named.Named.{Named}
use Rattle.text_tree.specs.declared.models.FieldDef.{FieldDef}
use Rattle.type_schema.specs.declared.schemas.FieldInfo as code_field
use Rattle.type_typing.specs.Names.{plain_of}
use Rattle.type_typing.specs.Outcome.{◌>>=◌}
use Rattle.type_typing.specs.declared.type_err.TypeErr.{TypeErr}
use Rattle.type_specs.specs.declared.stage.Stage.{Stage}
use Rattle.type_specs.specs.Models.{typed_field, with_next_field}
use Rattle.type_specs.specs.NewNames.{new_field, one_more}

pub pushed_static : (s : code_schema.Schema) (n : code_static.StaticInfo) → plain_of (record s { statics = s.statics ++ n ∷ []; next_static = s.next_static + 1 }) ≡ schema_after (plain_of s) (add_static (static_info_of n))
unfolding plain_of
pushed_static s n = ap (λ (statics : List StaticInfo). record (schema_of s) { statics = statics; next_static = s.next_static + 1 }) (map-append static_info_of s.statics (n ∷ []))

pub pushed_model : (s : code_schema.Schema) (m : code_model.ModelInfo) → plain_of (record s { models = s.models ++ m ∷ []; next_model = s.next_model + 1; next_field = s.next_field + length m.fields }) ≡ schema_after (plain_of s) (create_model (model_info_of m))
unfolding plain_of
pushed_model s m =
    ap (λ (models : List ModelInfo). record (schema_of s) { models = models; next_model = s.next_model + 1; next_field = s.next_field + length m.fields }) (map-append model_info_of s.models (m ∷ []))
    ∙ ap (λ (n : ℕ). record (schema_of s) { models = (schema_of s).models ++ model_info_of m ∷ []; next_model = s.next_model + 1; next_field = s.next_field + n }) (sym (length-map m.fields field_info_of))

pub statics_length : (s : code_schema.Schema) → length (plain_of s).statics ≡ length s.statics
unfolding plain_of
statics_length s = length-map s.statics static_info_of

pub models_length : (s : code_schema.Schema) → length (plain_of s).models ≡ length s.models
unfolding plain_of
models_length s = length-map s.models model_info_of

pub plain_next_model : (s : code_schema.Schema) → (plain_of s).next_model ≡ s.next_model
unfolding plain_of
plain_next_model s = refl

pub plain_next_field : (s : code_schema.Schema) → (plain_of s).next_field ≡ s.next_field
unfolding plain_of
plain_next_field s = refl

pub plain_next_static : (s : code_schema.Schema) → (plain_of s).next_static ≡ s.next_static
unfolding plain_of
plain_next_static s = refl

-- some name of a list that is seen through f
pub any_seen : {A B : Type 0} (f : A → B) (p : B → Bool) (xs : List A) → list_any p (map f xs) ≡ list_any (λ x. p (f x)) xs
any_seen f p [] = refl
any_seen f p (x ∷ xs) = ap (λ rest. p (f x) || rest) (any_seen f p xs)

-- a new field after these, as the tree has them
pub new_field_seen : (fields : List FieldDef) (x : Named) → new_field (map (λ (f : FieldDef). f.name.name) fields) x ≡ one_more (list_any (λ (f : FieldDef). bytes_eq f.name.name x.name) fields) (length fields) most_fields x
new_field_seen fields x =
    ap (λ b. one_more b (length (map (λ (f : FieldDef). f.name.name) fields)) most_fields x) (any_seen (λ (f : FieldDef). f.name.name) (λ name. bytes_eq name x.name) fields)
    ∙ ap (λ n. one_more (list_any (λ (f : FieldDef). bytes_eq f.name.name x.name) fields) n most_fields x) (length-map fields (λ (f : FieldDef). f.name.name))

-- ---- the next field of a model

abbrev FieldCode : Type 0
FieldCode = code_field.FieldInfo

number-seen : (first number : ℕ) (fields : List FieldCode) → number ≡ first + length fields → first + length (map field_info_of fields) ≡ number
number-seen first number fields is = ap (λ n. first + n) (length-map fields field_info_of) ∙ sym is

pub next_field_typed : (stage : Stage) (over : Schema) (model first number : ℕ) (fields : List FieldCode) (f : FieldDef) (info : FieldCode)
    → number ≡ first + length fields → typed_field stage over model number f ≡ Ok (field_info_of info)
    → with_next_field stage over model first (map field_info_of fields) f ≡ Ok (map field_info_of (fields ++ info ∷ []))
unfolding with_next_field
next_field_typed stage over model first number fields f info is typed =
    ap (λ n. typed_field stage over model n f >>= (λ i. Ok (map field_info_of fields ++ i ∷ []))) (number-seen first number fields is)
    ∙ ap (λ o. o >>= (λ i. Ok (map field_info_of fields ++ i ∷ []))) typed
    ∙ ap (λ all. Ok all) (sym (map-append field_info_of fields (info ∷ [])))

pub next_field_at_fault : (stage : Stage) (over : Schema) (model first number : ℕ) (fields : List FieldCode) (f : FieldDef) (e : TypeErr)
    → number ≡ first + length fields → typed_field stage over model number f ≡ Err e
    → with_next_field stage over model first (map field_info_of fields) f ≡ Err e
unfolding with_next_field
next_field_at_fault stage over model first number fields f e is typed =
    ap (λ n. typed_field stage over model n f >>= (λ i. Ok (map field_info_of fields ++ i ∷ []))) (number-seen first number fields is)
    ∙ ap (λ o. o >>= (λ i. Ok (map field_info_of fields ++ i ∷ []))) typed

-- a schema to which a model was pushed, field by field
pub pushed_model_as : (s : code_schema.Schema) (m : code_model.ModelInfo) (models : List code_model.ModelInfo) (n f : ℕ)
    → models ≡ s.models ++ m ∷ [] → n ≡ s.next_model + 1 → f ≡ s.next_field + length m.fields
    → schema_after (plain_of s) (create_model (model_info_of m)) ≡ plain_of (record s { models = models; next_model = n; next_field = f })
pushed_model_as s m models n f are next_model next_field =
    sym (pushed_model s m)
    ∙ ap (λ (all : List code_model.ModelInfo). plain_of (record s { models = all; next_model = s.next_model + 1; next_field = s.next_field + length m.fields })) (sym are)
    ∙ ap (λ k. plain_of (record s { models = models; next_model = k; next_field = s.next_field + length m.fields })) (sym next_model)
    ∙ ap (λ k. plain_of (record s { models = models; next_model = n; next_field = k })) (sym next_field)
