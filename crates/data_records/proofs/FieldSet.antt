-- A value in a field keeps a database a database.
use Rattle.std.proofs.Common.{◌≡◌, ℕ, Bool, true, false, List, [], ◌∷◌, refl, ap, sym, ◌∙◌, subst, cond}
use Rattle.std.specs.Prelude.{Some, ◌==◌, nat_eq, is_some, if◌then◌else◌}
use Rattle.std.specs.List.{find, list_any, IsDistinct}
use Rattle.std.specs.List.Sorted.{IsStrictlyIncreasing}
use Rattle.type_schema.specs.Schema.{FieldInfo, ModelInfo, Schema, model_of, field_in}
use Rattle.type_schema.specs.Proper.{IsProper}
use Rattle.type_schema.specs.Typing.{IsField, IsModel}
use Rattle.data_meaning.specs.Values.{Value, IsValueOf}
use Rattle.data_meaning.specs.Database.{Slot, Record, Table, Database, has_record, IsIntact, AreSlots, IsRecordIn, IsTableOf, HasTable, IsDatabase}
use Rattle.data_records.specs.Changed.{change_first, with_slot_value, with_value, with_value_in, with_field, has_field, IsFitting}
use Rattle.data_records.proofs.Changes.{located, field_is, id_is, ids-changed, slots-are}
use Rattle.data_records.proofs.Firsts.{all-changed, found-among}
use Rattle.data_records.proofs.Places.{row-there, slot-there}
use Rattle.data_records.proofs.Real.{AreReal, value-real, id-real, record-in}
use Rattle.data_records.proofs.Stays.{models-same, table-carried, records-carried, only-model, table-stays, all-zipped, has-carried}

-- the value stands in the first slot of the field
slots-set : (e : Database) (f : ℕ) (field : FieldInfo) (v : Value) → IsValueOf field.ty v × IsIntact e field.ty v → (fields : List FieldInfo) (slots : List Slot)
    → AreSlots e fields slots → field_in fields f ≡ Some field → AreSlots e fields (change_first (field_is f) (with_slot_value v) slots)
slots-set e f field v fits [] [] all found = cc
slots-set e f field v fits [] (slot ∷ slots) all found = absurd all
slots-set e f field v fits (g ∷ fields) [] all found = absurd all
slots-set e f field v fits (g ∷ fields) (slot ∷ slots) all found =
    let same : (slot.field == f) ≡ (g.number == f) = ap (λ n. n == f) all.0.0 in
    subst (λ (b : Bool). AreSlots e (g ∷ fields) (if b then with_slot_value v slot ∷ slots else slot ∷ change_first (field_is f) (with_slot_value v) slots)) (sym same)
    (elim (g.number == f) as (λ (b : Bool). cond b (Some g) (field_in fields f) ≡ Some field
    → AreSlots e (g ∷ fields) (if b then with_slot_value v slot ∷ slots else slot ∷ change_first (field_is f) (with_slot_value v) slots)) [
      | true ↦ λ h.
          let it : field ≡ g = cc in
          let here = subst (λ (u : FieldInfo). IsValueOf u.ty v × IsIntact e u.ty v) it fits in
          ((all.0.0, here.0, here.1), all.1)
      | false ↦ λ h. (all.0, slots-set e f field v fits fields slots all.1 h)
    ] found)

record-set : (e : Database) (info : ModelInfo) (next f : ℕ) (field : FieldInfo) (v : Value) → IsValueOf field.ty v × IsIntact e field.ty v → field_in info.fields f ≡ Some field
    → (r : Record) → IsRecordIn e info next r → IsRecordIn e info next (with_value f v r)
record-set e info next f field v fits found r is = record { first = is.first; given = is.given; slots = slots-set e f field v fits info.fields r.slots is.slots found }

module _ (s : Schema) (proper : IsProper s) (d : Database) (is : IsDatabase s d) where
  module _ (m id : ℕ) (info : ModelInfo) (field : FieldInfo) (v : Value) (model : model_of s m ≡ Some info) (found : field_in info.fields field.number ≡ Some field) (fit : IsFitting d m id field v) where
    abbrev f : ℕ
    f = field.number

    abbrev e : Database
    e = with_field m id f v d

    abbrev g : Table → Table
    g = with_value_in id f v

    keeps : (t : Table) → (g t).model ≡ t.model
    keeps t = refl

    more : (n i : ℕ) → has_record d n i ≡ true → has_record e n i ≡ true
    more n i there = has-carried m g keeps d n i (λ same t at h. ap (list_any (λ j. j == i)) (ids-changed id f v t.records) ∙ h) there

    real : AreReal s (has_record d) e
    real n i has there = (id-real s d is n i has there, more n i there)

    typed : IsField s info.number field
    typed = found-among (IsField s info.number) (λ (u : FieldInfo). u.number == f) info.fields field (found-among (IsModel s) (λ (u : ModelInfo). u.number == m) s.models info proper.typed model).fields found

    fits : IsValueOf field.ty v × IsIntact e field.ty v
    fits = value-real s (has_record d) e real field.ty typed.ty v fit.shaped fit.there

    table-set : (t : Table) → IsTableOf d info t → IsTableOf e info (g t)
    table-set t of = record {
      first = of.first;
      last = of.last;
      rising = subst IsStrictlyIncreasing (sym (ids-changed id f v t.records)) of.rising;
      records = all-changed (IsRecordIn e info t.next) (id_is id) (with_value f v) (record-set e info t.next f field v fits found) t.records (records-carried d e more info t.next t.records of.records);
    }

    pub set-keeps : IsDatabase s e
    set-keeps = record {
      apart = subst (IsDistinct nat_eq) (sym (models-same m g keeps d)) is.apart;
      tables = all-zipped (HasTable d) (λ (i : ModelInfo). i.number ≡ m → i ≡ info) (HasTable e)
          (λ i has only. table-stays m g keeps d i (λ t other at of. table-carried d e more i t of)
          (λ t here at of. let it : i ≡ info = only here in subst (λ (u : ModelInfo). IsTableOf e u (g t)) (sym it) (table-set t (subst (λ (u : ModelInfo). IsTableOf d u t) it of))) has)
          s.models is.tables (only-model m info s.models proper.models.distinct model);
    }

-- ---- the fields of a record

slot-of : (e : Database) (f : ℕ) (field : FieldInfo) (fields : List FieldInfo) (slots : List Slot) → AreSlots e fields slots → field_in fields f ≡ Some field
    → (slot : Slot) × (find (field_is f) slots ≡ Some slot)
slot-of e f field [] slots all found = cc
slot-of e f field (g ∷ fields) [] all found = absurd all
slot-of e f field (g ∷ fields) (slot ∷ slots) all found =
    let same : (slot.field == f) ≡ (g.number == f) = ap (λ n. n == f) all.0.0 in
    subst (λ (b : Bool). (u : Slot) × (cond b (Some slot) (find (field_is f) slots) ≡ Some u)) (sym same)
    (elim (g.number == f) as (λ (b : Bool). cond b (Some g) (field_in fields f) ≡ Some field → (u : Slot) × (cond b (Some slot) (find (field_is f) slots) ≡ Some u)) [
      | true ↦ λ h. (slot, refl)
      | false ↦ λ h. slot-of e f field fields slots all.1 h
    ] found)

pub fields-there : (s : Schema) (d : Database) → IsDatabase s d → (m id f : ℕ) (info : ModelInfo) (field : FieldInfo) → model_of s m ≡ Some info
    → field_in info.fields f ≡ Some field → has_field d m id f ≡ has_record d m id
fields-there s d is m id f info field model found =
    elim (has_record d m id) as (λ (b : Bool). has_record d m id ≡ b → has_field d m id f ≡ b) [
      | true ↦ λ there.
          let at = located d m id there in
          let row = (record-in s d is m id info model at).0 in
          let one = slot-of d f field info.fields at.row.slots row.slots found in
          ap (λ o. is_some o) (ap (find (field_is f)) (slots-are at) ∙ one.1)
      | false ↦ λ gone. elim (has_field d m id f) as (λ (b : Bool). has_field d m id f ≡ b → b ≡ false) [
        | true ↦ λ has.
            let slot = slot-there d m id f has in
            let there : has_record d m id ≡ true = row-there d m id f slot.0 slot.1 in
            cc
        | false ↦ λ has. refl
      ] refl
    ] refl
