-- A field that a command does not take keeps its type, and of one that it takes the type stays known.
use Rattle.std.proofs.Common.{◌≡◌, ℕ, Bool, true, false, not, ◌&&◌, List, [], ◌∷◌, ◌++◌, refl, ap, sym, ◌∙◌, subst}
use Rattle.std.specs.Prelude.{Option, Some, None, map, filter, find, ◌==◌, if◌then◌else◌, option_and_then}
use Rattle.std.specs.Option.{option_map, option_map_or, option_or}
use Rattle.std.proofs.lemmas.Bool.{eqb-true, eq-eqb, false_from_ne_true}
use Rattle.type_schema.specs.declared.types.TTy.{TTy}
use Rattle.type_schema.specs.declared.schemas.RemovedField.{RemovedField}
use Rattle.type_schema.specs.Trees.{Policy}
use Rattle.type_schema.specs.Schema.{FieldInfo, ModelInfo, Schema, model_in, field_in, model_of, type_of, removed_type, known_type}
use Rattle.type_schema.specs.Commands.{Command, create_model, delete_model, add_static, remove_static, add_principal, add_field, remove_field, update_field, weaken_field, update_model, weaken_model, given_or, change_model, change_field, with_field, without_field, with_field_policies, with_model_policies, fields_in, as_removed, schema_after}
use Rattle.data_meaning.proofs.Finds.{find-filter}
use Rattle.data_meaning.proofs.Policies.{model-changed, field-changed}
use Rattle.duty_meaning.proofs.Starting.{find-front}
use Rattle.type_proper.proofs.After.{eq-sym}

-- whether the field goes with the command
abbrev pub takes : Command → ℕ → ℕ → Bool
takes (create_model info) m f = false
takes (delete_model n) m f = n == m
takes (add_static info) m f = false
takes (remove_static n) m f = false
takes (add_principal n) m f = false
takes (add_field n g init) m f = false
takes (remove_field n g) m f = (n == m) && (g == f)
takes (update_field n g read write) m f = false
takes (weaken_field n g read write reason) m f = false
takes (update_model n create delete) m f = false
takes (weaken_model n create delete reason) m f = false

module _ (s : Schema) (m f : ℕ) (ty : TTy) where
  -- the type of the field in a model that is found
  abbrev of : Option ModelInfo → Option TTy
  of o = option_map (λ (g : FieldInfo). g.ty) (option_and_then (λ (i : ModelInfo). field_in i.fields f) o)

  abbrev IsIn : List FieldInfo → Type 0
  IsIn fields = option_map (λ (g : FieldInfo). g.ty) (field_in fields f) ≡ Some ty

  changed : (n : ℕ) (change : ModelInfo → ModelInfo) → ((i : ModelInfo) → (change i).number ≡ i.number) → (m ≡ n → (i : ModelInfo) → IsIn i.fields → IsIn (change i).fields)
      → of (model_in s.models m) ≡ Some ty → of (model_in (change_model n change s.models) m) ≡ Some ty
  changed n change keeps same h =
      model-changed n change keeps (λ o. of o ≡ Some ty → of (model_in (change_model n change s.models) m) ≡ Some ty) s.models m (λ e i later here. later (same e i here)) (λ h. h) h

  differs : (x y : ℕ) → (x ≡ y → ⊥) → (x == y) ≡ false
  differs x y other = false_from_ne_true _ (λ h. other (eqb-true x y h))

  more-fields : (g : FieldInfo) (fields : List FieldInfo) → IsIn fields → IsIn (fields ++ g ∷ [])
  more-fields g fields h =
      elim (field_in fields f) as (λ (o : Option FieldInfo). field_in fields f ≡ o → option_map (λ (u : FieldInfo). u.ty) o ≡ Some ty → IsIn (fields ++ g ∷ [])) [
        | None ↦ λ here e. cc
        | Some u ↦ λ here e. ap (option_map (λ (u : FieldInfo). u.ty)) (find-front (λ (u : FieldInfo). u.number == f) fields (g ∷ []) u here) ∙ e
      ] refl h

  fewer-fields : (g : ℕ) (fields : List FieldInfo) → (f ≡ g → ⊥) → IsIn fields → IsIn (filter (λ (u : FieldInfo). not (u.number == g)) fields)
  fewer-fields g fields other h =
      ap (option_map (λ (u : FieldInfo). u.ty))
      (find-filter (λ (u : FieldInfo). u.number == f) (λ (u : FieldInfo). not (u.number == g)) fields
      (λ u is. ap not (ap (λ n. n == g) (eqb-true u.number f is) ∙ differs f g other))) ∙ h

  same-fields : (g : ℕ) (read write : Option Policy) (fields : List FieldInfo) → IsIn fields
      → IsIn (change_field g (λ (u : FieldInfo). record u { read = given_or read u.read; write = given_or write u.write }) fields)
  same-fields g read write fields h =
      field-changed g (λ (u : FieldInfo). record u { read = given_or read u.read; write = given_or write u.write }) (λ u. refl) (λ (u : FieldInfo). u.ty) fields f (λ e u. refl) ∙ h

  pub type-stays : (c : Command) → type_of s m f ≡ Some ty → takes c m f ≡ false → type_of (schema_after s c) m f ≡ Some ty
  type-stays (create_model info) h kept =
      elim (model_in s.models m) as (λ (o : Option ModelInfo). model_in s.models m ≡ o → of o ≡ Some ty → of (model_in (s.models ++ info ∷ []) m) ≡ Some ty) [
        | None ↦ λ here e. cc
        | Some i ↦ λ here e. ap of (find-front (λ (u : ModelInfo). u.number == m) s.models (info ∷ []) i here) ∙ e
      ] refl h
  type-stays (delete_model n) h kept =
      ap of
      (find-filter (λ (i : ModelInfo). i.number == m) (λ (i : ModelInfo). not (i.number == n)) s.models
      (λ i is. ap not (ap (λ x. x == n) (eqb-true i.number m is) ∙ eq-sym n m kept))) ∙ h
  type-stays (add_static info) h kept = h
  type-stays (remove_static n) h kept = h
  type-stays (add_principal n) h kept = changed n (λ (i : ModelInfo). record i { principal = true }) (λ i. refl) (λ e i here. here) h
  type-stays (add_field n g init) h kept = changed n (with_field g) (λ i. refl) (λ e i here. more-fields g i.fields here) h
  type-stays (remove_field n g) h kept = changed n (without_field g) (λ i. refl) (λ e i here. fewer-fields g i.fields (other e) here) h
    where
      other : m ≡ n → f ≡ g → ⊥
      other e same =
          let taken : ((n == m) && (g == f)) ≡ true = ap (λ x. x && (g == f)) (eq-eqb n m (sym e)) ∙ eq-eqb g f (sym same) in
          let never : true ≡ false = sym taken ∙ kept in cc
  type-stays (update_field n g read write) h kept = changed n (with_field_policies g read write) (λ i. refl) (λ e i here. same-fields g read write i.fields here) h
  type-stays (weaken_field n g read write reason) h kept = changed n (with_field_policies g read write) (λ i. refl) (λ e i here. same-fields g read write i.fields here) h
  type-stays (update_model n create delete) h kept = changed n (with_model_policies create delete) (λ i. refl) (λ e i here. here) h
  type-stays (weaken_model n create delete reason) h kept = changed n (with_model_policies create delete) (λ i. refl) (λ e i here. here) h

-- ---- what is removed

module _ (m f : ℕ) where
  abbrev IsIt : RemovedField → Bool
  IsIt r = (r.model == m) && (r.field == f)

  -- fields of the model before others
  of-model : (n : ℕ) (before : List RemovedField) → (n == m) ≡ true → (fields : List FieldInfo)
      → find IsIt (map (as_removed n) fields ++ before) ≡ option_map_or (λ (g : FieldInfo). Some (as_removed n g)) (field_in fields f) (find IsIt before)
  of-model n before e [] = refl
  of-model n before e (x ∷ fields) =
      elim (x.number == f) as (λ (b : Bool). (if (n == m) && b then Some (as_removed n x) else find IsIt (map (as_removed n) fields ++ before))
      ≡ option_map_or (λ (g : FieldInfo). Some (as_removed n g)) (if b then Some x else field_in fields f) (find IsIt before)) [
        | true ↦ ap (λ c. if c && true then Some (as_removed n x) else find IsIt (map (as_removed n) fields ++ before)) e
        | false ↦ ap (λ c. if c && false then Some (as_removed n x) else find IsIt (map (as_removed n) fields ++ before)) e ∙ of-model n before e fields
      ]

  -- and of another model
  of-other : (n : ℕ) (before : List RemovedField) → (n == m) ≡ false → (fields : List FieldInfo) → find IsIt (map (as_removed n) fields ++ before) ≡ find IsIt before
  of-other n before e [] = refl
  of-other n before e (x ∷ fields) =
      ap (λ c. if c && (x.number == f) then Some (as_removed n x) else find IsIt (map (as_removed n) fields ++ before)) e ∙ of-other n before e fields

  -- of the fields of one number
  one-kept : (g : ℕ) → (g == f) ≡ true → (fields : List FieldInfo) → field_in (filter (λ (u : FieldInfo). u.number == g) fields) f ≡ field_in fields f
  one-kept g e fields =
      find-filter (λ (u : FieldInfo). u.number == f) (λ (u : FieldInfo). u.number == g) fields (λ u is. eq-eqb u.number g (eqb-true u.number f is ∙ sym (eqb-true g f e)))

  none-kept : (g : ℕ) → (g == f) ≡ false → (fields : List FieldInfo) → field_in (filter (λ (u : FieldInfo). u.number == g) fields) f ≡ None
  none-kept g e [] = refl
  none-kept g e (x ∷ fields) =
      let rest : List FieldInfo = filter (λ (u : FieldInfo). u.number == g) fields in
      elim (x.number == g) as (λ (b : Bool). (x.number == g) ≡ b → field_in (if b then x ∷ rest else rest) f ≡ None) [
        | true ↦ λ is.
            let other : (x.number == f) ≡ false = subst (λ n. (n == f) ≡ false) (sym (eqb-true x.number g is)) e in
            ap (λ c. if c then Some x else field_in rest f) other ∙ none-kept g e fields
        | false ↦ λ is. none-kept g e fields
      ] refl

  module _ (s : Schema) where
    there-or-lost : (n : ℕ) (o : Option FieldInfo) (lost : Option RemovedField)
        → option_map (λ (r : RemovedField). r.ty) (option_map_or (λ (g : FieldInfo). Some (as_removed n g)) o lost)
        ≡ option_or (option_map (λ (g : FieldInfo). g.ty) o) (option_map (λ (r : RemovedField). r.ty) lost)
    there-or-lost n None lost = refl
    there-or-lost n (Some g) lost = refl

    in-fields : field_in (fields_in s m) f ≡ option_and_then (λ (i : ModelInfo). field_in i.fields f) (model_of s m)
    in-fields =
        elim (model_of s m) as (λ (o : Option ModelInfo). field_in (option_map_or (λ (i : ModelInfo). i.fields) o []) f ≡ option_and_then (λ (i : ModelInfo). field_in i.fields f) o) [
          | None ↦ refl
          | Some i ↦ refl
        ]

    -- where fields of the model go, among which the field is if it is one
    goes : (n : ℕ) (fields : List FieldInfo) → (n == m) ≡ true → field_in fields f ≡ field_in (fields_in s n) f
        → option_map (λ (r : RemovedField). r.ty) (find IsIt (map (as_removed n) fields ++ s.removed)) ≡ known_type s m f
    goes n fields e among =
        ap (option_map (λ (r : RemovedField). r.ty)) (of-model n s.removed e fields)
        ∙ there-or-lost n (field_in fields f) (find IsIt s.removed)
        ∙ ap (λ (o : Option FieldInfo). option_or (option_map (λ (g : FieldInfo). g.ty) o) (removed_type s m f))
        (among ∙ ap (λ k. field_in (fields_in s k) f) (eqb-true n m e) ∙ in-fields)

    abbrev Found : Command → Bool → Type 0
    Found c taken = removed_type (schema_after s c) m f ≡ (if taken then known_type s m f else removed_type s m f)

    pub removed-after : (c : Command) → Found c (takes c m f)
    removed-after (create_model info) = refl
    removed-after (delete_model n) =
        elim (n == m) as (λ (b : Bool). (n == m) ≡ b → Found (delete_model n) b) [
          | true ↦ λ e. goes n (fields_in s n) e refl
          | false ↦ λ e. ap (option_map (λ (r : RemovedField). r.ty)) (of-other n s.removed e (fields_in s n))
        ] refl
    removed-after (add_static info) = refl
    removed-after (remove_static n) = refl
    removed-after (add_principal n) = refl
    removed-after (add_field n g init) = refl
    removed-after (remove_field n g) =
        let fields : List FieldInfo = filter (λ (u : FieldInfo). u.number == g) (fields_in s n) in
        elim (n == m) as (λ (b : Bool). (n == m) ≡ b → Found (remove_field n g) (b && (g == f))) [
          | true ↦ λ e.
              elim (g == f) as (λ (b : Bool). (g == f) ≡ b → Found (remove_field n g) b) [
                | true ↦ λ same. goes n fields e (one-kept g same (fields_in s n))
                | false ↦ λ other.
                    ap (option_map (λ (r : RemovedField). r.ty))
                    (of-model n s.removed e fields ∙ ap (λ o. option_map_or (λ (u : FieldInfo). Some (as_removed n u)) o (find IsIt s.removed)) (none-kept g other (fields_in s n)))
              ] refl
          | false ↦ λ e. ap (option_map (λ (r : RemovedField). r.ty)) (of-other n s.removed e fields)
        ] refl
    removed-after (update_field n g read write) = refl
    removed-after (weaken_field n g read write reason) = refl
    removed-after (update_model n create delete) = refl
    removed-after (weaken_model n create delete reason) = refl
