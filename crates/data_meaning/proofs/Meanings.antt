-- A command leaves the meaning of a policy that it does not set, and adds no records.
use Rattle.std.proofs.Common.{◌≡◌, ℕ, Bool, true, false, not, List, [], ◌∷◌, ◌++◌, refl, ap, sym, ◌∙◌, subst, arith, cond}
use Rattle.std.specs.Prelude.{Option, Some, None, map, filter, ◌==◌, is_some, IsTrue}
use Rattle.std.specs.List.{find, list_any}
use Rattle.std.specs.Option.{option_map, option_map_or}
use Rattle.std.proofs.lemmas.Bool.{eqb-true, eq-eqb, false_from_ne_true}
use Rattle.type_schema.specs.declared.types.TTy.{TTy}
use Rattle.type_schema.specs.Trees.{Policy, Init}
use Rattle.type_schema.specs.Schema.{FieldInfo, ModelInfo, Schema, model_in, field_in, model_of, field_of, type_of}
use Rattle.type_schema.specs.Typing.{IsPolicy}
use Rattle.type_schema.specs.Commands.{Command, create_model, delete_model, add_static, remove_static, add_principal, add_field, remove_field, update_field, weaken_field, update_model, weaken_model, change_model, without_field, schema_after, IsCommand}
use Rattle.type_schema.specs.Proper.{IsProper}
use Rattle.data_meaning.specs.declared.principals.Principal.{Principal}
use Rattle.data_meaning.specs.declared.principals.Principal.TheVariants.{Static, Rec}
use Rattle.data_meaning.specs.Values.{Nothing}
use Rattle.data_meaning.specs.Database.{Slot, Record, Table, Database, table_of, has_record, is_there}
use Rattle.data_meaning.specs.Meaning.{allows}
use Rattle.data_meaning.specs.Run.{init_value, after_command}
use Rattle.data_meaning.proofs.Finds.{find-filter, find-none, find-more}
use Rattle.data_meaning.proofs.Changes.{ids-changed, field-kept, without_table, table-kept}
use Rattle.data_meaning.proofs.Agreement.{Agree, same-allows}
use Rattle.data_meaning.proofs.Kept.{found-field, field-below}

-- ---- what a look-up found

has-field : (s : Schema) (m f : ℕ) (t : TTy) → type_of s m f ≡ Some t → (g : FieldInfo) × (field_of s m f ≡ Some g)
has-field s m f t h =
    elim (field_of s m f) as (λ (o : Option FieldInfo). option_map (λ (g : FieldInfo). g.ty) o ≡ Some t → (g : FieldInfo) × (o ≡ Some g)) [
      | None ↦ λ e. cc
      | Some g ↦ λ e. (g, refl)
    ] h

is-found : {A : Type 0} (o : Option A) → IsTrue (is_some o) → o ≡ None → ⊥
is-found {A} None h e = cc
is-found {A} (Some x) h e = cc

-- the field that is removed is gone
removed : (s : Schema) (m f : ℕ) (g : FieldInfo) → field_of (schema_after s (remove_field m f)) m f ≡ Some g → ⊥
removed s m f g h =
    let test : ModelInfo → Bool = λ i. i.number == m in
    let there = found-field (schema_after s (remove_field m f)) m f g h in
    let gone : (i : ModelInfo) → field_in (without_field f i).fields f ≡ None
    = λ i. find-none (λ (u : FieldInfo). u.number == f) (λ (u : FieldInfo). not (u.number == f)) i.fields (λ u is. ap not is) in
    of-changed s.models there.model there.found (λ i same. let never : None ≡ Some g = sym (gone i) ∙ ap (λ (u : ModelInfo). field_in u.fields f) (sym same) ∙ there.field in cc)
  where
    of-changed : (models : List ModelInfo) (j : ModelInfo) → model_in (change_model m (without_field f) models) m ≡ Some j → ((i : ModelInfo) → j ≡ without_field f i → ⊥) → ⊥
    of-changed [] j e never = cc
    of-changed (x ∷ models) j e never =
        elim (x.number == m) as (λ (b : Bool). (x.number == m) ≡ b
        → cond ((let u : ModelInfo = cond b (without_field f x) x in u.number) == m) (Some (cond b (without_field f x) x)) (model_in (change_model m (without_field f) models) m) ≡ Some j → ⊥) [
          | true ↦ λ here h.
              let first : cond true (Some (without_field f x)) (model_in (change_model m (without_field f) models) m) ≡ Some j
              = subst (λ (b : Bool). cond b (Some (without_field f x)) (model_in (change_model m (without_field f) models) m) ≡ Some j) here h in
              never x (let same : j ≡ without_field f x = cc in same)
          | false ↦ λ here h.
              of-changed models j (subst (λ (b : Bool). cond b (Some x) (model_in (change_model m (without_field f) models) m) ≡ Some j) here h) never
        ] refl e

deleted : (s : Schema) (m : ℕ) → model_of (schema_after s (delete_model m)) m ≡ None
deleted s m = find-none (λ (i : ModelInfo). i.number == m) (λ (i : ModelInfo). not (i.number == m)) s.models (λ i is. ap not is)

-- ---- agreement

pub agree-added : (s : Schema) (m : ℕ) (f : FieldInfo) (init : Init) (d : Database) → IsProper s → f.number ≡ s.next_field → Agree s (after_command (add_field m f init) d) d
agree-added s m f init d proper number = record {
  fields = λ n g id t h.
      let there = has-field s n g t h in
      let below = field-below s n g there.0 proper there.1 in
      field-kept m (λ (r : Record). r.slots ++ (record { field = f.number; value = init_value d init r.id }) ∷ []) d n id g (λ same r.
      find-more (λ (slot : Slot). slot.field == g) r.slots (record { field = f.number; value = init_value d init r.id })
      (false_from_ne_true (f.number == g) (λ is. let e : f.number ≡ g = eqb-true _ _ is in omega (arith, e, number, below))));
  models = λ n h. ids-changed m (λ (r : Record). r.slots ++ (record { field = f.number; value = init_value d init r.id }) ∷ []) d n;
}

pub agree-removed : (s : Schema) (m f : ℕ) (d : Database) → Agree (schema_after s (remove_field m f)) (after_command (remove_field m f) d) d
agree-removed s m f d = record {
  fields = λ n g id t h.
      let there = has-field (schema_after s (remove_field m f)) n g t h in
      field-kept m (λ (r : Record). filter (λ (slot : Slot). not (slot.field == f)) r.slots) d n id g (λ same r.
      find-filter (λ (slot : Slot). slot.field == g) (λ (slot : Slot). not (slot.field == f)) r.slots (λ slot is.
      let differs : (slot.field == f) ≡ false = false_from_ne_true (slot.field == f) (λ e.
      let one : n ≡ m = same in
      let other : g ≡ f = sym (eqb-true _ _ is) ∙ eqb-true _ _ e in
      removed s m f there.0 (subst (λ (k : ℕ). field_of (schema_after s (remove_field m f)) m k ≡ Some there.0) other
      (subst (λ (k : ℕ). field_of (schema_after s (remove_field m f)) k g ≡ Some there.0) one there.1))) in
      ap not differs));
  models = λ n h. ids-changed m (λ (r : Record). filter (λ (slot : Slot). not (slot.field == f)) r.slots) d n;
}

pub agree-deleted : (s : Schema) (m : ℕ) (d : Database) → Agree (schema_after s (delete_model m)) (after_command (delete_model m) d) d
agree-deleted s m d = record {
  fields = λ n g id t h.
      let there = has-field (schema_after s (delete_model m)) n g t h in
      let model = found-field (schema_after s (delete_model m)) n g there.0 there.1 in
      let other : n ≡ m → ⊥ = λ same. let never : None ≡ Some model.model = sym (deleted s m) ∙ ap (model_of (schema_after s (delete_model m))) (sym same) ∙ model.found in cc in
      ap (λ o.
      option_map_or (λ (slot : Slot). slot.value) (find (λ (slot : Slot). slot.field == g)
      (option_map_or (λ (r : Record). r.slots) (find (λ (r : Record). r.id == id) (option_map_or (λ (t : Table). t.records) o [])) [])) Nothing) (table-kept d m n other);
  models = λ n h.
      let other : n ≡ m → ⊥ = λ same. is-found (model_of (schema_after s (delete_model m)) n) h (ap (model_of (schema_after s (delete_model m))) same ∙ deleted s m) in
      ap (λ o. map (λ (r : Record). r.id) (option_map_or (λ (t : Table). t.records) o [])) (table-kept d m n other);
}

module _ (s : Schema) (proper : IsProper s) (m : ℕ) (p : Policy) (before : IsPolicy s m p) (d : Database) (id : ℕ) (q : Principal) where
  -- a policy that is well typed before and after the command
  pub allows-kept : (c : Command) → IsCommand s c → IsPolicy (schema_after s c) m p → allows (after_command c d) p id q ≡ allows d p id q
  allows-kept (create_model info) is after = refl
  allows-kept (delete_model n) is after = same-allows _ _ _ (agree-deleted s n d) m p after id q
  allows-kept (add_static info) is after = refl
  allows-kept (remove_static n) is after = refl
  allows-kept (add_principal n) is after = refl
  allows-kept (add_field n f init) is after = same-allows _ _ _ (agree-added s n f init d proper is.1) m p before id q
  allows-kept (remove_field n f) is after = same-allows _ _ _ (agree-removed s n f d) m p after id q
  allows-kept (update_field n f read write) is after = refl
  allows-kept (weaken_field n f read write reason) is after = refl
  allows-kept (update_model n create delete) is after = refl
  allows-kept (weaken_model n create delete reason) is after = refl

-- ---- records

-- a record that is there after a command was there before
pub record-before : (c : Command) (d : Database) (m id : ℕ) → has_record (after_command c d) m id ≡ true → has_record d m id ≡ true
record-before (create_model info) d m id h = h
record-before (delete_model n) d m id h =
    elim (m == n) as (λ (b : Bool). (m == n) ≡ b → has_record d m id ≡ true) [
      | true ↦ λ same.
          let gone : table_of (without_table n d) m ≡ None
          = find-none (λ (t : Table). t.model == m) (λ (t : Table). not (t.model == n)) d (λ t is. ap not (eq-eqb _ _ (eqb-true _ _ is ∙ eqb-true _ _ same))) in
          let never : false ≡ true
          = ap (λ o. list_any (λ i. i == id) (map (λ (r : Record). r.id) (option_map_or (λ (t : Table). t.records) o []))) (sym gone) ∙ h in
          cc
      | false ↦ λ other.
          let differs : m ≡ n → ⊥ = λ e. let never : true ≡ false = sym (eq-eqb m n e) ∙ other in cc in
          ap (λ o. list_any (λ i. i == id) (map (λ (r : Record). r.id) (option_map_or (λ (t : Table). t.records) o []))) (sym (table-kept d n m differs)) ∙ h
    ] refl
record-before (add_static info) d m id h = h
record-before (remove_static n) d m id h = h
record-before (add_principal n) d m id h = h
record-before (add_field n f init) d m id h = ap (list_any (λ i. i == id)) (sym (ids-changed n _ d m)) ∙ h
record-before (remove_field n f) d m id h = ap (list_any (λ i. i == id)) (sym (ids-changed n _ d m)) ∙ h
record-before (update_field n f read write) d m id h = h
record-before (weaken_field n f read write reason) d m id h = h
record-before (update_model n create delete) d m id h = h
record-before (weaken_model n create delete reason) d m id h = h

pub there-before : (c : Command) (d : Database) (q : Principal) → is_there (after_command c d) q ≡ true → is_there d q ≡ true
there-before c d (Static n) h = refl
there-before c d (Rec m id) h = record-before c d m id h
