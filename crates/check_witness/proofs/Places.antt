-- The places of the fields of a schema, each of which is known by its model and number.
use Rattle.std.proofs.Common.{◌≡◌, ℕ, zero, suc, Bool, true, false, not, ◌&&◌, List, [], ◌∷◌, ◌++◌, refl, ap, ◌∙◌, cond}
use Rattle.std.specs.Prelude.{Some, map, filter, ◌==◌, nat_eq, slice_get, option_and_then}
use Rattle.std.specs.List.{flat_map, AllByRecursion, IsDistinct}
use Rattle.std.specs.Option.{option_map}
use Rattle.std.proofs.lemmas.Bool.{eq-eqb}
use Rattle.type_schema.specs.Schema.{FieldInfo, ModelInfo, Schema, model_of, field_in, type_of}
use Rattle.type_schema.specs.Proper.{field_numbers, model_numbers}
use Rattle.data_meaning.proofs.Agreement.{ap2}
use Rattle.duty_meaning.specs.Structures.{before, Place, places_in, is_set, functions_of, relations_of, is_place, function_of, relation_of}
use Rattle.duty_meaning.proofs.Starting.{place}
use Rattle.check_witness.proofs.Lists.{all-passing, all-implied, all-both, all-map, all-unmap, all-append, all-flat, all-filter, all-at, found-itself}

-- ---- places differ

abbrev pub AreApart : List Place → Type 0
AreApart [] = Unit {0}
AreApart (p ∷ places) = AllByRecursion (λ (q : Place). is_place q.model q.field.number p ≡ false) places × AreApart places

filter-apart : (keep : Place → Bool) (places : List Place) → AreApart places → AreApart (filter keep places)
filter-apart keep [] apart = tt
filter-apart keep (p ∷ places) apart =
    elim (keep p) as (λ (t : Bool). AreApart (cond t (p ∷ filter keep places) (filter keep places))) [
      | true ↦ (all-filter (λ (q : Place). is_place q.model q.field.number p ≡ false) keep places apart.0, filter-apart keep places apart.1)
      | false ↦ filter-apart keep places apart.1
    ]

append-apart : (ps qs : List Place) → AreApart ps → AreApart qs
    → AllByRecursion (λ (p : Place). AllByRecursion (λ (q : Place). is_place q.model q.field.number p ≡ false) qs) ps → AreApart (ps ++ qs)
append-apart [] qs apart others all = others
append-apart (p ∷ ps) qs apart others all =
    (all-append (λ (q : Place). is_place q.model q.field.number p ≡ false) ps qs apart.0 all.0, append-apart ps qs apart.1 others all.1)

other-number : (t b : Bool) → b ≡ false → (t && b) ≡ false
other-number true b e = e
other-number false b e = refl

fields-apart : (m : ℕ) (fields : List FieldInfo) → IsDistinct nat_eq (field_numbers fields) → AreApart (map (place m) fields)
unfolding IsDistinct
fields-apart m [] d = tt
fields-apart m (f ∷ fields) d = (
  all-map (λ (q : Place). is_place q.model q.field.number (place m f) ≡ false) (place m) fields
      (all-implied (λ (g : FieldInfo). nat_eq f.number g.number ≡ false) (λ (g : FieldInfo). is_place m g.number (place m f) ≡ false)
      (λ g e. other-number (m == m) (f.number == g.number) e) fields
      (all-unmap (λ n. nat_eq f.number n ≡ false) (λ (g : FieldInfo). g.number) fields d.0)),
  fields-apart m fields d.1,
)

models-apart : (models : List ModelInfo) → IsDistinct nat_eq (model_numbers models) → AllByRecursion (λ (m : ModelInfo). IsDistinct nat_eq (field_numbers m.fields)) models
    → AreApart (flat_map places_in models)
unfolding IsDistinct
models-apart [] d fields = tt
models-apart (i ∷ models) d fields =
    append-apart (map (place i.number) i.fields) (flat_map places_in models) (fields-apart i.number i.fields fields.0) (models-apart models d.1 fields.1)
    (all-map (λ (p : Place). AllByRecursion (λ (q : Place). is_place q.model q.field.number p ≡ false) (flat_map places_in models)) (place i.number) i.fields
    (each i.fields))
  where
    apart-from : (f : FieldInfo) → AllByRecursion (λ (q : Place). is_place q.model q.field.number (place i.number f) ≡ false) (flat_map places_in models)
    apart-from f =
        all-flat (λ (q : Place). is_place q.model q.field.number (place i.number f) ≡ false) places_in models
        (all-implied (λ (j : ModelInfo). nat_eq i.number j.number ≡ false)
        (λ (j : ModelInfo). AllByRecursion (λ (q : Place). is_place q.model q.field.number (place i.number f) ≡ false) (places_in j))
        (λ j e. row j.number j.fields e) models
        (all-unmap (λ n. nat_eq i.number n ≡ false) (λ (j : ModelInfo). j.number) models d.0))
      where
        row : (n : ℕ) (others : List FieldInfo) → nat_eq i.number n ≡ false
            → AllByRecursion (λ (q : Place). is_place q.model q.field.number (place i.number f) ≡ false) (map (place n) others)
        row n [] e = tt
        row n (g ∷ others) e = (ap (λ t. t && (f.number == g.number)) e, row n others e)

    each : (fields : List FieldInfo)
        → AllByRecursion (λ (f : FieldInfo). AllByRecursion (λ (q : Place). is_place q.model q.field.number (place i.number f) ≡ false) (flat_map places_in models)) fields
    each [] = tt
    each (f ∷ fields) = (apart-from f, each fields)

place-itself : (p q : Place) → p ≡ q → is_place q.model q.field.number p ≡ true
place-itself p q same =
    ap2 (λ a b. a && b) (eq-eqb _ _ (ap (λ (u : Place). u.model) same)) (eq-eqb _ _ (ap (λ (u : Place). u.field.number) same))

-- a place stands before no other one of its model and number
place-at : (places : List Place) → AreApart places → (k : ℕ) (p : Place) → slice_get places k ≡ Some p → before (is_place p.model p.field.number) places ≡ k
place-at [] apart k p e = cc
place-at (q ∷ places) apart zero p e =
    let same : q ≡ p = cc in
    ap (λ t. cond t 0 (suc (before (is_place p.model p.field.number) places))) (place-itself q p same)
place-at (q ∷ places) apart (suc k) p e =
    let differs : is_place p.model p.field.number q ≡ false = all-at (λ (u : Place). is_place u.model u.field.number q ≡ false) places k p apart.0 e in
    ap (λ t. cond t 0 (suc (before (is_place p.model p.field.number) places))) differs ∙ ap suc (place-at places apart.1 k p e)

-- ---- places are there

-- the place of a field of a model of the schema
pub record Stands (s : Schema) (p : Place) : Type 0 where
  pub info : ModelInfo
  pub model : model_of s p.model ≡ Some info
  pub field : field_in info.fields p.field.number ≡ Some p.field

module _ (s : Schema) (models : IsDistinct nat_eq (model_numbers s.models))
    (fields : AllByRecursion (λ (m : ModelInfo). IsDistinct nat_eq (field_numbers m.fields)) s.models) where
  -- each model and each field is found by its number
  pub models-found : AllByRecursion (λ (i : ModelInfo). model_of s i.number ≡ Some i) s.models
  models-found = found-itself (λ (i : ModelInfo). i.number) s.models models

  pub fields-found : AllByRecursion (λ (i : ModelInfo). AllByRecursion (λ (f : FieldInfo). field_in i.fields f.number ≡ Some f) i.fields) s.models
  fields-found =
      all-implied (λ (i : ModelInfo). IsDistinct nat_eq (field_numbers i.fields)) (λ (i : ModelInfo). AllByRecursion (λ (f : FieldInfo). field_in i.fields f.number ≡ Some f) i.fields)
      (λ i d. found-itself (λ (f : FieldInfo). f.number) i.fields d) s.models fields

  places-stand : AllByRecursion (Stands s) (flat_map places_in s.models)
  places-stand =
      all-flat (Stands s) places_in s.models
      (all-implied (λ (i : ModelInfo). (model_of s i.number ≡ Some i) × AllByRecursion (λ (f : FieldInfo). field_in i.fields f.number ≡ Some f) i.fields)
      (λ (i : ModelInfo). AllByRecursion (Stands s) (places_in i))
      (λ i h. all-map (Stands s) (place i.number) i.fields
      (all-implied (λ (f : FieldInfo). field_in i.fields f.number ≡ Some f) (λ (f : FieldInfo). Stands s (place i.number f))
      (λ f e. record { info = i; model = h.0; field = e }) i.fields h.1))
      s.models
      (all-both (λ (i : ModelInfo). model_of s i.number ≡ Some i) (λ (i : ModelInfo). AllByRecursion (λ (f : FieldInfo). field_in i.fields f.number ≡ Some f) i.fields)
      s.models models-found fields-found))

  pub function-stands : (k : ℕ) (p : Place) → slice_get (functions_of s) k ≡ Some p → Stands s p
  function-stands k p e =
      all-at (Stands s) (functions_of s) k p (all-filter (Stands s) (λ (u : Place). not (is_set u.field.ty)) (flat_map places_in s.models) places-stand) e

  pub relation-stands : (k : ℕ) (p : Place) → slice_get (relations_of s) k ≡ Some p → Stands s p
  relation-stands k p e =
      all-at (Stands s) (relations_of s) k p (all-filter (Stands s) (λ (u : Place). is_set u.field.ty) (flat_map places_in s.models) places-stand) e

  -- functions and set relations are numbered by their places
  pub function-at : (k : ℕ) (p : Place) → slice_get (functions_of s) k ≡ Some p → function_of s p.model p.field.number ≡ k
  function-at k p e =
      place-at (functions_of s) (filter-apart (λ (u : Place). not (is_set u.field.ty)) (flat_map places_in s.models) (models-apart s.models models fields)) k p e

  pub relation-at : (k : ℕ) (p : Place) → slice_get (relations_of s) k ≡ Some p → relation_of s p.model p.field.number ≡ k
  relation-at k p e =
      place-at (relations_of s) (filter-apart (λ (u : Place). is_set u.field.ty) (flat_map places_in s.models) (models-apart s.models models fields)) k p e

-- the type that the schema gives a field
pub type-there : (s : Schema) (m : ℕ) (i : ModelInfo) (f : FieldInfo) → model_of s m ≡ Some i → field_in i.fields f.number ≡ Some f → type_of s m f.number ≡ Some f.ty
type-there s m i f model field =
    ap (λ o. option_map (λ (g : FieldInfo). g.ty) (option_and_then (λ (u : ModelInfo). field_in u.fields f.number) o)) model
    ∙ ap (option_map (λ (g : FieldInfo). g.ty)) field

-- what passes a test
pub passes-at : {A : Type 0} (p : A → Bool) (xs : List A) (k : ℕ) (x : A) → slice_get (filter p xs) k ≡ Some x → p x ≡ true
passes-at p xs k x e = all-at (λ y. p y ≡ true) (filter p xs) k x (all-passing p xs) e
