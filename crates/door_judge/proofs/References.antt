-- What names a record stands in the schema.
use Rattle.std.proofs.Common.{◌≡◌, ℕ, Bool, true, false, List, [], ◌∷◌, Option, None, Some, refl, ap, ◌∙◌, subst, cond, map}
use Rattle.std.specs.Prelude.{◌==◌, ◌&&◌, nat_eq, is_some, option_and_then, if◌then◌else◌}
use Rattle.std.specs.List.{AllByRecursion, IsDistinct, find}
use Rattle.std.specs.Option.{option_map, option_map_or}
use Rattle.std.proofs.lemmas.Bool.{eq-eqb}
use Rattle.type_schema.specs.Schema.{FieldInfo, ModelInfo, Schema, field_in, field_of, model_in, model_of}
use Rattle.type_schema.specs.Proper.{IsProper}
use Rattle.data_meaning.specs.Database.{Record, Database, records_of}
use Rattle.data_records.specs.declared.references.Reference.{Reference}
use Rattle.data_records.specs.Removed.{first_given, first_reference, names, reference_from}

-- what is given by an element of which this holds
given-among : {A B : Type 0} (P : A → Type 0) (f : A → Option B) (xs : List A) (y : B) → AllByRecursion P xs → first_given f xs ≡ Some y → (x : A) × P x × (f x ≡ Some y)
given-among P f [] y all e = absurd (let never : ⊥ = cc in never)
given-among {A} {B} P f (x ∷ xs) y all e =
    elim (f x) as (λ (o : Option B). f x ≡ o → option_map_or Some o (first_given f xs) ≡ Some y → (z : A) × P z × (f z ≡ Some y)) [
      | None ↦ λ is h. given-among P f xs y all.1 h
      | Some w ↦ λ is h. (x, all.0, is ∙ h)
    ] refl e

given-by : {A B : Type 0} (f : A → Option B) (xs : List A) (y : B) → first_given f xs ≡ Some y → (x : A) × (f x ≡ Some y)
given-by f [] y e = absurd (let never : ⊥ = cc in never)
given-by {A} {B} f (x ∷ xs) y e =
    elim (f x) as (λ (o : Option B). f x ≡ o → option_map_or Some o (first_given f xs) ≡ Some y → (z : A) × (f z ≡ Some y)) [
      | None ↦ λ is h. given-by f xs y h
      | Some w ↦ λ is h. (x, is ∙ h)
    ] refl e

-- each model is found by its number
abbrev IsFound : List ModelInfo → ModelInfo → Type 0
IsFound models info = model_in models info.number ≡ Some info

behind : (x : ModelInfo) (xs ys : List ModelInfo) → AllByRecursion (λ n. nat_eq x.number n ≡ false) (map (λ (m : ModelInfo). m.number) ys) → AllByRecursion (IsFound xs) ys
    → AllByRecursion (IsFound (x ∷ xs)) ys
behind x xs [] apart found = tt
behind x xs (y ∷ ys) apart found =
    (ap (λ (b : Bool). cond b (Some x) (model_in xs y.number)) apart.0 ∙ found.0, behind x xs ys apart.1 found.1)

all-found : (xs : List ModelInfo) → IsDistinct nat_eq (map (λ (m : ModelInfo). m.number) xs) → AllByRecursion (IsFound xs) xs
unfolding IsDistinct
all-found [] apart = tt
all-found (x ∷ xs) apart =
    (ap (λ (b : Bool). cond b (Some x) (model_in xs x.number)) (eq-eqb x.number x.number refl), behind x xs xs apart.0 (all-found xs apart.1))

-- a field that passes a test is found by its number
found-again : (p : FieldInfo → Bool) (fields : List FieldInfo) (f : FieldInfo) → find p fields ≡ Some f → is_some (field_in fields f.number) ≡ true
found-again p [] f e = absurd (let never : ⊥ = cc in never)
found-again p (g ∷ fields) f e =
    elim (g.number == f.number) as (λ (b : Bool). (g.number == f.number) ≡ b → is_some (cond b (Some g) (field_in fields f.number)) ≡ true) [
      | true ↦ λ is. refl
      | false ↦ λ is.
          elim (p g) as (λ (b : Bool). cond b (Some g) (find p fields) ≡ Some f → is_some (field_in fields f.number) ≡ true) [
            | true ↦ λ h.
                let same : g ≡ f = cc in
                let equal : (g.number == f.number) ≡ true = eq-eqb g.number f.number (ap (λ (x : FieldInfo). x.number) same) in
                absurd (let never : ⊥ = cc in never)
            | false ↦ λ h. found-again p fields f h
          ] e
    ] refl

module _ (s : Schema) (d : Database) (m id : ℕ) where
  from-row : (info : ModelInfo) (row : Record) (r : Reference) → model_of s info.number ≡ Some info → reference_from m id info row ≡ Some r → is_some (field_of s r.model r.field) ≡ true
  from-row info row r known e =
      elim ((info.number == m) && (row.id == id)) as (λ (b : Bool).
      (if b then None else option_map (λ (f : FieldInfo). let x : Reference = record { model = info.number; id = row.id; field = f.number } in x) (find (names m id row) info.fields)) ≡ Some r
      → is_some (field_of s r.model r.field) ≡ true) [
        | true ↦ λ h. absurd (let never : ⊥ = cc in never)
        | false ↦ λ h.
            elim (find (names m id row) info.fields) as (λ (o : Option FieldInfo). find (names m id row) info.fields ≡ o
            → option_map (λ (f : FieldInfo). let x : Reference = record { model = info.number; id = row.id; field = f.number } in x) o ≡ Some r → is_some (field_of s r.model r.field) ≡ true) [
              | None ↦ λ found k. absurd (let never : ⊥ = cc in never)
              | Some f ↦ λ found k.
                  let x : Reference = record { model = info.number; id = row.id; field = f.number } in
                  let same : x ≡ r = cc in
                  subst (λ (y : Reference). is_some (field_of s y.model y.field) ≡ true) same
                  (ap (λ (o : Option ModelInfo). is_some (option_and_then (λ (i : ModelInfo). field_in i.fields f.number) o)) known ∙ found-again (names m id row) info.fields f found)
            ] refl h
      ] e

  pub reference-known : IsProper s → (r : Reference) → first_reference s d m id ≡ Some r → is_some (field_of s r.model r.field) ≡ true
  reference-known proper r e =
      let at = given-among (IsFound s.models) (λ (info : ModelInfo). first_given (reference_from m id info) (records_of d info.number)) s.models r (all-found s.models proper.models.distinct) e in
      let row = given-by (reference_from m id at.0) (records_of d at.0.number) r at.2 in
      from-row at.0 row.0 r at.1 row.1
