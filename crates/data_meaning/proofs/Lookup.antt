-- Look-up in a database over a schema.
use Rattle.std.proofs.Common.{◌≡◌, ℕ, Bool, true, false, ◌||◌, List, [], ◌∷◌, refl, ap, sym, ◌∙◌, subst, cond}
use Rattle.std.specs.Prelude.{Option, Some, None, map, ◌==◌, option_and_then}
use Rattle.std.specs.List.{find, list_any}
use Rattle.std.specs.Option.{option_map, option_map_or}
use Rattle.std.proofs.lemmas.Bool.{eqb-true}
use Rattle.type_schema.specs.declared.types.TTy.{TTy}
use Rattle.type_schema.specs.Schema.{FieldInfo, ModelInfo, Schema, model_of, field_in, type_of}
use Rattle.data_meaning.specs.Values.{Value, Nothing, IsValueOf}
use Rattle.data_meaning.specs.Database.{Slot, Record, Table, Database, table_of, records_of, slots_of, has_record, field_at, IsIntact, AreSlots, IsRecordIn, HasTable, IsDatabase}
use Rattle.data_meaning.specs.FieldsTyped.{FieldsAreTyped}
use Rattle.data_meaning.proofs.Finds.{find-holds, find-among}

-- a record with an id of the list
pub record-found : (id : ℕ) (records : List Record) → list_any (λ i. i == id) (map (λ (r : Record). r.id) records) ≡ true
    → (r : Record) × (find (λ (r : Record). r.id == id) records ≡ Some r)
record-found id [] h = cc
record-found id (r ∷ records) h =
    elim (r.id == id) as (λ (b : Bool). (b || list_any (λ i. i == id) (map (λ (u : Record). u.id) records)) ≡ true
    → (u : Record) × (cond b (Some r) (find (λ (u : Record). u.id == id) records) ≡ Some u)) [
      | true ↦ λ e. (r, refl)
      | false ↦ λ e. record-found id records e
    ] h

-- the slot of a field
slot-typed : (d : Database) (fields : List FieldInfo) (slots : List Slot) (f : ℕ) (g : FieldInfo) → AreSlots d fields slots → field_in fields f ≡ Some g
    → IsValueOf g.ty (option_map_or (λ (slot : Slot). slot.value) (find (λ (slot : Slot). slot.field == f) slots) Nothing)
    × IsIntact d g.ty (option_map_or (λ (slot : Slot). slot.value) (find (λ (slot : Slot). slot.field == f) slots) Nothing)
slot-typed d [] slots f g is h = cc
slot-typed d (x ∷ fields) [] f g is h = absurd is
slot-typed d (x ∷ fields) (slot ∷ slots) f g is h =
    let value : Option Slot → Value = λ o. option_map_or (λ (slot : Slot). slot.value) o Nothing in
    let same : (slot.field == f) ≡ (x.number == f) = ap (λ n. n == f) is.0.0 in
    subst (λ (b : Bool). IsValueOf g.ty (value (cond b (Some slot) (find (λ (u : Slot). u.field == f) slots)))
    × IsIntact d g.ty (value (cond b (Some slot) (find (λ (u : Slot). u.field == f) slots)))) (sym same)
    (elim (x.number == f) as (λ (b : Bool). cond b (Some x) (field_in fields f) ≡ Some g
    → IsValueOf g.ty (value (cond b (Some slot) (find (λ (u : Slot). u.field == f) slots)))
    × IsIntact d g.ty (value (cond b (Some slot) (find (λ (u : Slot). u.field == f) slots)))) [
      | true ↦ λ e.
          let it : x ≡ g = cc in
          subst (λ (u : FieldInfo). IsValueOf u.ty slot.value × IsIntact d u.ty slot.value) it (is.0.1, is.0.2)
      | false ↦ λ e. slot-typed d fields slots f g is.1 e
    ] h)

module _ (s : Schema) (d : Database) (is : IsDatabase s d) (m f id : ℕ) (t : TTy) where
  of-field : (i : ModelInfo) (g : FieldInfo) → model_of s m ≡ Some i → field_in i.fields f ≡ Some g → g.ty ≡ t → has_record d m id ≡ true
      → IsValueOf t (field_at d m id f) × IsIntact d t (field_at d m id f)
  of-field i g model field ty there =
      let table = find-among (HasTable d) (λ (u : ModelInfo). u.number == m) s.models i is.tables model in
      let number : i.number ≡ m = eqb-true _ _ (find-holds (λ (u : ModelInfo). u.number == m) s.models i model) in
      let at : table_of d m ≡ Some table.0 = ap (table_of d) (sym number) ∙ table.1 in
      let records : records_of d m ≡ table.0.records = ap (λ o. option_map_or (λ (u : Table). u.records) o []) at in
      let r = record-found id table.0.records (ap (λ rs. list_any (λ k. k == id) (map (λ (u : Record). u.id) rs)) (sym records) ∙ there) in
      let inside = find-among (IsRecordIn d i table.0.next) (λ (u : Record). u.id == id) table.0.records r.0 table.2.records r.1 in
      let slots : slots_of d m id ≡ r.0.slots
      = ap (λ rs. option_map_or (λ (u : Record). u.slots) (find (λ (u : Record). u.id == id) rs) []) records
      ∙ ap (λ o. option_map_or (λ (u : Record). u.slots) o []) r.1 in
      let found = slot-typed d i.fields r.0.slots f g inside.slots field in
      subst (λ (u : TTy). IsValueOf u (field_at d m id f) × IsIntact d u (field_at d m id f)) ty
      (subst (λ (xs : List Slot). IsValueOf g.ty (option_map_or (λ (slot : Slot). slot.value) (find (λ (slot : Slot). slot.field == f) xs) Nothing)
      × IsIntact d g.ty (option_map_or (λ (slot : Slot). slot.value) (find (λ (slot : Slot). slot.field == f) xs) Nothing)) (sym slots) found)

  of-lookup : type_of s m f ≡ Some t → has_record d m id ≡ true → IsValueOf t (field_at d m id f) × IsIntact d t (field_at d m id f)
  of-lookup h there =
      elim (model_of s m) as (λ (o : Option ModelInfo). model_of s m ≡ o
      → option_map (λ (g : FieldInfo). g.ty) (option_and_then (λ (i : ModelInfo). field_in i.fields f) o) ≡ Some t
      → IsValueOf t (field_at d m id f) × IsIntact d t (field_at d m id f)) [
        | None ↦ λ model e. cc
        | Some i ↦ λ model.
            elim (field_in i.fields f) as (λ (o : Option FieldInfo). field_in i.fields f ≡ o → option_map (λ (g : FieldInfo). g.ty) o ≡ Some t
            → IsValueOf t (field_at d m id f) × IsIntact d t (field_at d m id f)) [
              | None ↦ λ field e. cc
              | Some g ↦ λ field e. let ty : g.ty ≡ t = cc in of-field i g model field ty there
            ] refl
      ] refl h

pub typed : FieldsAreTyped
typed s d is m f id t h there = of-lookup s d is m f id t h there
