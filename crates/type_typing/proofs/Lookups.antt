-- Looking up in a schema as the code has it, and in its plain data.
use Rattle.std.proofs.Common.{◌≡◌, ℕ, Bool, true, false, cond, List, [], ◌∷◌, map, refl, sym, ap, ◌∙◌}
use Rattle.std.specs.Prelude.{◌==◌, Option, Some, None, Ok, option_and_then, option_map, position, slice_get}
use Rattle.std.specs.List.{find}
use Rattle.std.specs.Option.{option_map_or}
use Rattle.std.specs.Str.{bytes_eq}
use Rattle.type_schema.specs.declared.schemas.StaticInfo as code_static
use Rattle.type_schema.specs.declared.schemas.FieldInfo as code_field
use Rattle.type_schema.specs.declared.schemas.ModelInfo as code_model
use Rattle.type_schema.specs.declared.schemas.Schema as code_schema
use Rattle.type_schema.specs.declared.types.TTy.{TTy}
use Rattle.type_schema.specs.Trees.{Name}
use Rattle.type_schema.specs.Schema.{StaticInfo, FieldInfo, ModelInfo, is_principal_model}
use Rattle.type_schema.specs.SchemaViews.{static_info_of, field_info_of, model_info_of}
use Rattle.type_typing.specs.declared.type_err.TypeErr.{TypeErr}
use Rattle.type_typing.specs.declared.vars.Var.{Var}
use Rattle.type_typing.specs.Names.{field_named, model_named, plain_of, static_named, var_named}
use Rattle.type_typing.specs.Outcome.{or_else}

-- what is found in a list seen through f, and read by g
pub find_seen : {A B C : Type 0} (f : A → B) (g : B → C) (p : B → Bool) (xs : List A) → option_map g (find p (map f xs)) ≡ option_map (λ x. g (f x)) (find (λ x. p (f x)) xs)
find_seen f g p [] = refl
find_seen {A} {B} {C} f g p (x ∷ xs) =
    elim (p (f x)) as (λ b. option_map g (cond b (Some (f x)) (find p (map f xs))) ≡ option_map (λ (y : A). g (f y)) (cond b (Some x) (find (λ y. p (f y)) xs)))
    [ true ↦ refl | false ↦ find_seen f g p xs ]

pub find_then_seen : {A B C : Type 0} (f : A → B) (g : B → Option C) (p : B → Bool) (xs : List A) → option_and_then g (find p (map f xs)) ≡ option_and_then (λ x. g (f x)) (find (λ x. p (f x)) xs)
find_then_seen f g p [] = refl
find_then_seen {A} {B} {C} f g p (x ∷ xs) =
    elim (p (f x)) as (λ b. option_and_then g (cond b (Some (f x)) (find p (map f xs))) ≡ option_and_then (λ (y : A). g (f y)) (cond b (Some x) (find (λ y. p (f y)) xs)))
    [ true ↦ refl | false ↦ find_then_seen f g p xs ]

pub find_or_seen : {A B C : Type 0} (f : A → B) (g : B → C) (d : C) (p : B → Bool) (xs : List A) → option_map_or g (find p (map f xs)) d ≡ option_map_or (λ x. g (f x)) (find (λ x. p (f x)) xs) d
find_or_seen f g d p [] = refl
find_or_seen {A} {B} {C} f g d p (x ∷ xs) =
    elim (p (f x)) as (λ b. option_map_or g (cond b (Some (f x)) (find p (map f xs))) d ≡ option_map_or (λ (y : A). g (f y)) (cond b (Some x) (find (λ y. p (f y)) xs)) d)
    [ true ↦ refl | false ↦ find_or_seen f g d p xs ]

pub model_is_named : (s : code_schema.Schema) (name : Name) (found : Option code_model.ModelInfo) → found ≡ find (λ (m : code_model.ModelInfo). bytes_eq m.name name) s.models → option_map (λ (m : code_model.ModelInfo). m.number) found ≡ model_named (plain_of s) name
unfolding model_named plain_of
model_is_named s name found e =
    ap (option_map (λ (m : code_model.ModelInfo). m.number)) e
    ∙ sym (find_seen model_info_of (λ (m : ModelInfo). m.number) (λ (m : ModelInfo). bytes_eq m.name name) s.models)

pub static_is_named : (s : code_schema.Schema) (name : Name) (found : Option code_static.StaticInfo) → found ≡ find (λ (n : code_static.StaticInfo). bytes_eq n.name name) s.statics → option_map (λ (n : code_static.StaticInfo). n.number) found ≡ static_named (plain_of s) name
unfolding static_named plain_of
static_is_named s name found e =
    ap (option_map (λ (n : code_static.StaticInfo). n.number)) e
    ∙ sym (find_seen static_info_of (λ (n : StaticInfo). n.number) (λ (n : StaticInfo). bytes_eq n.name name) s.statics)

abbrev pub number_and_type : code_field.FieldInfo → ℕ × TTy
number_and_type f = (f.number, f.ty)

abbrev pub field_found : Name → code_model.ModelInfo → Option (ℕ × TTy)
field_found name info = option_map number_and_type (find (λ (f : code_field.FieldInfo). bytes_eq f.name name) info.fields)

fields_seen : (name : Name) (found : Option code_model.ModelInfo) → option_and_then (λ (info : code_model.ModelInfo). option_map (λ (f : FieldInfo). (f.number, f.ty)) (find (λ (f : FieldInfo). bytes_eq f.name name) (model_info_of info).fields)) found ≡ option_and_then (field_found name) found
fields_seen name None = refl
fields_seen name (Some info) = find_seen field_info_of (λ (f : FieldInfo). (f.number, f.ty)) (λ (f : FieldInfo). bytes_eq f.name name) info.fields

pub field_is_named : (s : code_schema.Schema) (m : ℕ) (name : Name) (found : Option code_model.ModelInfo) → found ≡ find (λ (info : code_model.ModelInfo). info.number == m) s.models → option_and_then (field_found name) found ≡ field_named (plain_of s) m name
unfolding field_named plain_of
field_is_named s m name found e =
    ap (option_and_then (field_found name)) e
    ∙ sym (fields_seen name (find (λ (info : code_model.ModelInfo). info.number == m) s.models))
    ∙ sym (find_then_seen model_info_of (λ (info : ModelInfo). option_map (λ (f : FieldInfo). (f.number, f.ty)) (find (λ (f : FieldInfo). bytes_eq f.name name) info.fields)) (λ (info : ModelInfo). info.number == m) s.models)

pub principal_is_marked : (s : code_schema.Schema) (m : ℕ) (found : Option code_model.ModelInfo) → found ≡ find (λ (info : code_model.ModelInfo). info.number == m) s.models → option_map_or (λ (info : code_model.ModelInfo). info.principal) found false ≡ is_principal_model (plain_of s) m
unfolding plain_of
principal_is_marked s m found e =
    ap (λ o. option_map_or (λ (info : code_model.ModelInfo). info.principal) o false) e
    ∙ sym (find_or_seen model_info_of (λ (info : ModelInfo). info.principal) false (λ (info : ModelInfo). info.number == m) s.models)

pub var_found : (vars : List Var) (name : Name) (depth : ℕ) (v : Var) (e : TypeErr) → Some depth ≡ position (λ (v : Var). bytes_eq v.name name) vars → Some v ≡ slice_get vars depth → or_else (var_named vars name) e ≡ Ok (depth, v.ty)
unfolding var_named
var_found vars name depth v e at is = rw (← at) (rw (← is) refl)
