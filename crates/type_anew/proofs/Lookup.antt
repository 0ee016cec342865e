-- Look-up in a database numbered anew.
use Rattle.std.proofs.Common.{◌≡◌, ◌==◌, ℕ, Bool, true, false, cond, List, [], ◌∷◌, refl, ap, ◌∙◌, map}
use Rattle.std.specs.Prelude.{Option, Some, None, IsTrue, is_some, option_and_then}
use Rattle.std.specs.List.{find, list_any}
use Rattle.std.specs.Option.{option_map, option_map_or}
use Rattle.std.proofs.lemmas.Bool.{eqb-true}
use Rattle.type_schema.specs.declared.types.TTy.{TTy}
use Rattle.type_schema.specs.Schema.{FieldInfo, ModelInfo, Schema, field_in, model_of, type_of}
use Rattle.type_schema.specs.Typing.{HasModel}
use Rattle.data_meaning.specs.Values.{Nothing}
use Rattle.data_meaning.specs.Database.{Slot, Record, Table, Database, table_of, records_of, ids_of, slots_of, has_record, field_at}
use Rattle.data_meaning.proofs.Finds.{find-holds}
use Rattle.data_records.specs.Renumbered.{new_field, new_model, numbered_by, record_numbered_by, renumbered, renumbered_table}
use Rattle.type_anew.proofs.Places.{same-field, same-model}

cond-map : {A : Type 0} (g : A → A) (b : Bool) (x : A) (o : Option A) → cond b (Some (g x)) (option_map g o) ≡ option_map g (cond b (Some x) o)
cond-map g true x o = refl
cond-map g false x o = refl

-- the first of the changed elements that passes a test
find-moved : {A : Type 0} (p q : A → Bool) (g : A → A) (xs : List A) → ((x : A) → q (g x) ≡ p x) → find q (map g xs) ≡ option_map g (find p xs)
find-moved p q g [] e = refl
find-moved p q g (x ∷ xs) e =
    ap (λ b. cond b (Some (g x)) (find q (map g xs))) (e x) ∙ ap (λ o. cond (p x) (Some (g x)) o) (find-moved p q g xs e) ∙ cond-map g (p x) x (find p xs)

pub ids-same : (number : ℕ → ℕ) (rs : List Record) → map (λ (r : Record). r.id) (map (record_numbered_by number) rs) ≡ map (λ (r : Record). r.id) rs
ids-same number [] = refl
ids-same number (r ∷ rs) = ap (λ ids. r.id ∷ ids) (ids-same number rs)

module _ (s : Schema) (d : Database) where
  pub table-moved : (m : ℕ) → HasModel s m → table_of (renumbered s d) (new_model s.models m) ≡ option_map (renumbered_table s.models) (table_of d m)
  table-moved m has =
      find-moved (λ (t : Table). t.model == m) (λ (t : Table). t.model == new_model s.models m) (renumbered_table s.models) d (λ t. same-model s.models t.model m has)

  pub records-moved : (m : ℕ) → HasModel s m → records_of (renumbered s d) (new_model s.models m) ≡ map (record_numbered_by (new_field s.models m)) (records_of d m)
  records-moved m has = ap (λ o. option_map_or (λ (t : Table). t.records) o []) (table-moved m has) ∙ out (table_of d m) refl
    where
      out : (o : Option Table) → table_of d m ≡ o
          → option_map_or (λ (t : Table). t.records) (option_map (renumbered_table s.models) o) [] ≡ map (record_numbered_by (new_field s.models m)) (option_map_or (λ (t : Table). t.records) o [])
      out None is = refl
      out (Some t) is =
          let same : t.model ≡ m = eqb-true t.model m (find-holds (λ (u : Table). u.model == m) d t is) in
          ap (λ k. map (record_numbered_by (new_field s.models k)) t.records) same

  pub ids-moved : (m : ℕ) → HasModel s m → ids_of (renumbered s d) (new_model s.models m) ≡ ids_of d m
  ids-moved m has = ap (λ rs. map (λ (r : Record). r.id) rs) (records-moved m has) ∙ ids-same (new_field s.models m) (records_of d m)

  pub has-moved : (m id : ℕ) → HasModel s m → has_record (renumbered s d) (new_model s.models m) id ≡ has_record d m id
  has-moved m id has = ap (list_any (λ i. i == id)) (ids-moved m has)

  slots-moved : (m id : ℕ) → HasModel s m → slots_of (renumbered s d) (new_model s.models m) id ≡ map (numbered_by (new_field s.models m)) (slots_of d m id)
  slots-moved m id has =
      ap (λ rs. option_map_or (λ (r : Record). r.slots) (find (λ (r : Record). r.id == id) rs) []) (records-moved m has)
      ∙ ap (λ o. option_map_or (λ (r : Record). r.slots) o [])
      (find-moved (λ (r : Record). r.id == id) (λ (r : Record). r.id == id) (record_numbered_by (new_field s.models m)) (records_of d m) (λ r. refl))
      ∙ out (find (λ (r : Record). r.id == id) (records_of d m))
    where
      out : (o : Option Record)
          → option_map_or (λ (r : Record). r.slots) (option_map (record_numbered_by (new_field s.models m)) o) [] ≡ map (numbered_by (new_field s.models m)) (option_map_or (λ (r : Record). r.slots) o [])
      out None = refl
      out (Some r) = refl

  -- the model and the field of a field that has a type
  pub typed-there : (m f : ℕ) (t : TTy) → type_of s m f ≡ Some t → (info : ModelInfo) × (model_of s m ≡ Some info) × IsTrue (is_some (field_in info.fields f))
  typed-there m f t e = model (model_of s m) refl e
    where
      field : (o : Option FieldInfo) → option_map (λ (g : FieldInfo). g.ty) o ≡ Some t → IsTrue (is_some o)
      field None e = cc
      field (Some g) e = refl

      model : (o : Option ModelInfo) → model_of s m ≡ o → option_map (λ (g : FieldInfo). g.ty) (option_and_then (λ (i : ModelInfo). field_in i.fields f) o) ≡ Some t
          → (info : ModelInfo) × (model_of s m ≡ Some info) × IsTrue (is_some (field_in info.fields f))
      model None is e = cc
      model (Some info) is e = (info, is, field (field_in info.fields f) e)

  pub field-moved : (m f id : ℕ) (t : TTy) → type_of s m f ≡ Some t → field_at (renumbered s d) (new_model s.models m) id (new_field s.models m f) ≡ field_at d m id f
  field-moved m f id t e =
      let there = typed-there m f t e in
      let has : HasModel s m = ap (λ o. is_some o) there.1 in
      ap (λ slots. option_map_or (λ (slot : Slot). slot.value) (find (λ (slot : Slot). slot.field == new_field s.models m f) slots) Nothing) (slots-moved m id has)
      ∙ ap (λ o. option_map_or (λ (slot : Slot). slot.value) o Nothing)
      (find-moved (λ (slot : Slot). slot.field == f) (λ (slot : Slot). slot.field == new_field s.models m f) (numbered_by (new_field s.models m)) (slots_of d m id)
      (λ slot. same-field s.models m slot.field f there.0 there.1 there.2))
      ∙ out (find (λ (slot : Slot). slot.field == f) (slots_of d m id))
    where
      out : (o : Option Slot) → option_map_or (λ (slot : Slot). slot.value) (option_map (numbered_by (new_field s.models m)) o) Nothing ≡ option_map_or (λ (slot : Slot). slot.value) o Nothing
      out None = refl
      out (Some slot) = refl
