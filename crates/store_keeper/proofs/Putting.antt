-- A record that is put into a database is inserted, or a field of it is set.
use Rattle.std.proofs.Common.{◌≡◌, ℕ, ◌<◌, Bool, true, false, ◌||◌, List, [], ◌∷◌, refl, ap, sym, subst, ◌∙◌, cond, arith, map, length, suc, inl, inr}
use Rattle.std.specs.Prelude.{Option, Some, None, ◌==◌, IfSome, if◌then◌else◌}
use Rattle.std.specs.List.{find, list_any, AllByRecursion}
use Rattle.std.specs.Option.{option_map_or}
use Rattle.std.proofs.lemmas.Bool.{eqb-true, eq-eqb, ne_eqb}
use Rattle.type_schema.specs.Schema.{FieldInfo, ModelInfo, Schema, model_of}
use Rattle.data_meaning.specs.Values.{Value}
use Rattle.data_meaning.specs.Database.{Slot, Record, Table, Database, table_of, has_record, records_of, slots_of, IsRecordIn, HasTable, IsDatabase}
use Rattle.data_records.specs.declared.data_err.DataErr.{DataErr}
use Rattle.data_records.specs.declared.data_err.DataErr.TheVariants as err
use Rattle.data_records.specs.declared.data_err.Limit.TheVariants as limit
use Rattle.data_records.specs.Changed.{IsFitting, IsUnfit, change_first, with_field, with_slot_value, with_value, with_value_in}
use Rattle.data_records.specs.Inserted.{IsAdmitted, IsRefused, change_table, is_there_or_next, next_of, with_record, with_row}
use Rattle.data_records.specs.Rows.{AreAllThere, AreShaped, IsFirstDangling, IsFirstWrong, slots_from}
use Rattle.data_records.specs.Shape.{There}
use Rattle.store_keeper.specs.Changes.{FindsChange, IsChanged, IsNext, IsSetInto, changed_by, put_into, values_of}
use Rattle.store_keeper.proofs.Differences.{all-found, find-passes, no-change, same-first}

-- ---- tables

pub same-change : (m : ℕ) (f g : Table → Table) (d : Database) → IfSome (table_of d m) (λ t. f t ≡ g t) → change_table m f d ≡ change_table m g d
same-change m f g [] h = refl
same-change m f g (t ∷ d) h =
    elim (t.model == m) as (λ (b : Bool). IfSome (cond b (Some t) (table_of d m)) (λ u. f u ≡ g u)
    → (if b then f t ∷ d else t ∷ change_table m f d) ≡ (if b then g t ∷ d else t ∷ change_table m g d)) [
      | true ↦ λ same. ap (λ u. u ∷ d) same
      | false ↦ λ rest. ap (λ ts. t ∷ ts) (same-change m f g d rest)
    ] h

unchanged : (m : ℕ) (d : Database) → change_table m (λ (t : Table). t) d ≡ d
unchanged m [] = refl
unchanged m (t ∷ d) =
    elim (t.model == m) as (λ (b : Bool). (if b then t ∷ d else t ∷ change_table m (λ (u : Table). u) d) ≡ t ∷ d) [
      | true ↦ refl
      | false ↦ ap (λ ts. t ∷ ts) (unchanged m d)
    ]

-- the table with the record in the place of the one with its id
abbrev pub in_place : Record → Table → Table
in_place r t = record t { records = change_first (λ (x : Record). x.id == r.id) (λ (x : Record). r) t.records }

pub put-by : (r : Record) (t : Table) (b : Bool) → (r.id == t.next) ≡ b → put_into r t ≡ (if b then with_record r t else in_place r t)
put-by r t b is = ap (λ (c : Bool). if c then with_record r t else in_place r t) is

record-is : (r : Record) (id : ℕ) (slots : List Slot) → r.id ≡ id → r.slots ≡ slots → r ≡ record { id = id; slots = slots }
record-is r id slots e f =
    let first : r ≡ record { id = id; slots = r.slots } = ap (λ (i : ℕ). let x : Record = record { id = i; slots = r.slots } in x) e in
    first ∙ ap (λ (s : List Slot). let x : Record = record { id = id; slots = s } in x) f

-- ---- behind the others

put-next : (m : ℕ) (r : Record) (d : Database) → r.id ≡ next_of d m → change_table m (put_into r) d ≡ change_table m (with_record r) d
put-next m r d is = same-change m (put_into r) (with_record r) d (go (table_of d m) is)
  where
    go : (o : Option Table) → r.id ≡ option_map_or (λ (t : Table). t.next) o 1 → IfSome o (λ t. put_into r t ≡ with_record r t)
    go None e = tt
    go (Some t) e = put-by r t true (eq-eqb r.id t.next e)

pub put-is-row : (info : ModelInfo) (r : Record) (d : Database) → IsNext info d r → change_table info.number (put_into r) d ≡ with_row info (values_of r.slots) d
put-is-row info r d next =
    put-next info.number r d next.next
    ∙ ap (λ (x : Record). change_table info.number (with_record x) d) (record-is r (next_of d info.number) (slots_from info.fields (values_of r.slots)) next.next next.slots)

-- ---- in the place of the one with its id

pub put-is-same : (m : ℕ) (r : Record) (d : Database) → r.slots ≡ slots_of d m r.id → (r.id == next_of d m) ≡ false → change_table m (put_into r) d ≡ d
put-is-same m r d slots other = same-change m (put_into r) (λ (t : Table). t) d (go (table_of d m) slots other) ∙ unchanged m d
  where
    at : (t : Table) (o : Option Record) → find (λ (x : Record). x.id == r.id) t.records ≡ o → r.slots ≡ option_map_or (λ (x : Record). x.slots) o [] → IfSome o (λ x. r ≡ x)
    at t None is e = tt
    at t (Some x) is e = record-is r x.id x.slots (sym (eqb-true x.id r.id (find-passes (λ (y : Record). y.id == r.id) t.records x is))) e

    go : (o : Option Table) → r.slots ≡ option_map_or (λ (x : Record). x.slots) (find (λ (x : Record). x.id == r.id) (option_map_or (λ (t : Table). t.records) o [])) []
        → (r.id == option_map_or (λ (t : Table). t.next) o 1) ≡ false → IfSome o (λ t. put_into r t ≡ t)
    go None e n = tt
    go (Some t) e n =
        let id_is = λ (x : Record). x.id == r.id in
        put-by r t false n
        ∙ ap (λ (rs : List Record). let u : Table = record t { records = rs } in u)
        (same-first id_is (λ (x : Record). r) (λ (x : Record). x) t.records (at t (find id_is t.records) refl e) ∙ no-change id_is t.records)

pub put-is-field : (m : ℕ) (r : Record) (f : ℕ) (v : Value) (d : Database) → r.slots ≡ change_first (λ (slot : Slot). slot.field == f) (with_slot_value v) (slots_of d m r.id)
    → (r.id == next_of d m) ≡ false → change_table m (put_into r) d ≡ with_field m r.id f v d
put-is-field m r f v d slots other = same-change m (put_into r) (with_value_in r.id f v) d (go (table_of d m) slots other)
  where
    at : (t : Table) (o : Option Record) → find (λ (x : Record). x.id == r.id) t.records ≡ o
        → r.slots ≡ change_first (λ (slot : Slot). slot.field == f) (with_slot_value v) (option_map_or (λ (x : Record). x.slots) o [])
        → IfSome o (λ x. r ≡ with_value f v x)
    at t None is e = tt
    at t (Some x) is e =
        record-is r x.id (change_first (λ (slot : Slot). slot.field == f) (with_slot_value v) x.slots)
        (sym (eqb-true x.id r.id (find-passes (λ (y : Record). y.id == r.id) t.records x is))) e

    go : (o : Option Table)
        → r.slots ≡ change_first (λ (slot : Slot). slot.field == f) (with_slot_value v)
        (option_map_or (λ (x : Record). x.slots) (find (λ (x : Record). x.id == r.id) (option_map_or (λ (t : Table). t.records) o [])) [])
        → (r.id == option_map_or (λ (t : Table). t.next) o 1) ≡ false → IfSome o (λ t. put_into r t ≡ with_value_in r.id f v t)
    go None e n = tt
    go (Some t) e n =
        let id_is = λ (x : Record). x.id == r.id in
        put-by r t false n
        ∙ ap (λ (rs : List Record). let u : Table = record t { records = rs } in u)
        (same-first id_is (λ (x : Record). r) (with_value f v) t.records (at t (find id_is t.records) refl e))

-- ---- an id that is there is below the next one

there-given : (d : Database) (info : ModelInfo) (id n : ℕ) (rs : List Record) → AllByRecursion (IsRecordIn d info n) rs
    → list_any (λ i. i == id) (map (λ (r : Record). r.id) rs) ≡ true → (id == n) ≡ false
there-given d info id n [] all h = cc
there-given d info id n (r ∷ rs) all h =
    elim (r.id == id) as (λ (b : Bool). (r.id == id) ≡ b → (b || list_any (λ i. i == id) (map (λ (x : Record). x.id) rs)) ≡ true → (id == n) ≡ false) [
      | true ↦ λ is k.
          let below : r.id < n = all.0.given in
          let here : r.id ≡ id = eqb-true r.id id is in
          ne_eqb id n (λ same. absurd (omega (arith, below, here, same)))
      | false ↦ λ is k. there-given d info id n rs all.1 k
    ] refl h

pub not-next : (s : Schema) (info : ModelInfo) (d : Database) (id : ℕ) → IsDatabase s d → model_of s info.number ≡ Some info → has_record d info.number id ≡ true
    → (id == next_of d info.number) ≡ false
not-next s info d id is known there =
    let table = all-found (HasTable d) (λ (i : ModelInfo). i.number == info.number) s.models info is.tables known in
    let rows : list_any (λ i. i == id) (map (λ (r : Record). r.id) table.0.records) ≡ true
    = ap (λ o. list_any (λ i. i == id) (map (λ (r : Record). r.id) (option_map_or (λ (t : Table). t.records) o []))) (sym table.1) ∙ there in
    ap (λ o. id == option_map_or (λ (t : Table). t.next) o 1) table.1 ∙ there-given d info id table.0.next table.0.records table.2.records rows

pub next-fresh : (s : Schema) (info : ModelInfo) (d : Database) → IsDatabase s d → model_of s info.number ≡ Some info → has_record d info.number (next_of d info.number) ≡ false
next-fresh s info d is known =
    let next = next_of d info.number in
    elim (has_record d info.number next) as (λ (b : Bool). has_record d info.number next ≡ b → b ≡ false) [
      | true ↦ λ there. let other = not-next s info d next is known there in let itself = eq-eqb next next refl in cc
      | false ↦ λ none. refl
    ] refl

-- ---- a row is as long as the fields

pub shaped-length : (fields : List FieldInfo) (row : List Value) → AreShaped fields row → length fields ≡ length row
shaped-length [] [] h = refl
shaped-length [] (v ∷ row) h = absurd h
shaped-length (f ∷ fields) [] h = absurd h
shaped-length (f ∷ fields) (v ∷ row) h = ap suc (shaped-length fields row h.1)

-- ---- what is admitted, or fits, is refused for want of memory alone

no-wrong : (fields : List FieldInfo) (row : List Value) (wrong : ℕ) → AreShaped fields row → IsFirstWrong fields row wrong → ⊥
no-wrong [] [] wrong shaped h = h
no-wrong [] (v ∷ row) wrong shaped h = h
no-wrong (f ∷ fields) [] wrong shaped h = h
no-wrong (f ∷ fields) (v ∷ row) wrong shaped (inl here) = here.0 shaped.0
no-wrong (f ∷ fields) (v ∷ row) wrong shaped (inr rest) = no-wrong fields row wrong shaped.1 rest.1

no-dangling : (there : There) (fields : List FieldInfo) (row : List Value) (field id : ℕ) → AreAllThere there fields row → IsFirstDangling there fields row field id → ⊥
no-dangling there [] [] field id all h = h
no-dangling there [] (v ∷ row) field id all h = h
no-dangling there (f ∷ fields) [] field id all h = h
no-dangling there (f ∷ fields) (v ∷ row) field id all (inl here) = let none = all.0 in let one = here.0 in cc
no-dangling there (f ∷ fields) (v ∷ row) field id all (inr rest) = no-dangling there fields row field id all.1 rest.1

pub admitted-memory : (info : ModelInfo) (d : Database) (row : List Value) (e : DataErr) → IsAdmitted info d row → IsRefused info d row e → e ≡ err.OutOfMemory
admitted-memory info d row err.NoRecord may h = absurd h
admitted-memory info d row (err.WrongShape field) may h = absurd (no-wrong info.fields row field may.shaped h)
admitted-memory info d row (err.Dangling field id) may h = absurd (no-dangling (is_there_or_next d info.number) info.fields row field id may.there h.1)
admitted-memory info d row (err.Referenced m id field) may h = absurd h
admitted-memory info d row (err.Full limit.Records) may h = let fewer = may.fewer in let more = h.2 in absurd (omega arith)
admitted-memory info d row (err.Full limit.Weight) may h = absurd (h.3 may.room)
admitted-memory info d row err.IdsSpent may h = let unspent = may.unspent in let spent = h.4 in absurd (omega arith)
admitted-memory info d row err.OutOfMemory may h = refl

pub fitting-memory : (d : Database) (m id : ℕ) (field : FieldInfo) (v : Value) (e : DataErr) → IsFitting d m id field v → IsUnfit d m id field v e → e ≡ err.OutOfMemory
fitting-memory d m id field v err.NoRecord may h = let there = may.field_there in absurd cc
fitting-memory d m id field v (err.WrongShape f) may h = absurd (h.1 may.shaped)
fitting-memory d m id field v (err.Dangling f i) may h = let none = may.there in let some = h.2 in absurd cc
fitting-memory d m id field v (err.Referenced n i f) may h = absurd h
fitting-memory d m id field v (err.Full limit.Records) may h = absurd h
fitting-memory d m id field v (err.Full limit.Weight) may h = absurd (h.3 may.room)
fitting-memory d m id field v err.IdsSpent may h = absurd h
fitting-memory d m id field v err.OutOfMemory may h = refl

-- ---- the field that is set

pub set-of : (info : ModelInfo) (d : Database) (r old : Record) (field : FieldInfo) (slot : Slot) (after : Database) → has_record d info.number r.id ≡ true
    → Some old ≡ find (λ (x : Record). x.id == r.id) (records_of d info.number) → r.slots ≡ changed_by (Some slot) old.slots
    → Some field ≡ find (λ (f : FieldInfo). f.number == slot.field) info.fields → IsFitting d info.number r.id field slot.value
    → after ≡ with_field info.number r.id field.number slot.value d → IsSetInto info d r after
set-of info d r old field slot after there old-is changed known fits is =
    let number : field.number ≡ slot.field = eqb-true field.number slot.field (find-passes (λ (f : FieldInfo). f.number == slot.field) info.fields field (sym known)) in
    let slots : old.slots ≡ slots_of d info.number r.id = ap (λ o. option_map_or (λ (x : Record). x.slots) o []) old-is in
    inr (
      field,
      slot.value,
      record {
        there = there;
        known = ap (λ (n : ℕ). find (λ (f : FieldInfo). f.number == n) info.fields) number ∙ sym known;
        fits = fits;
        slots = changed ∙ ap (λ (n : ℕ). change_first (λ (s : Slot). s.field == n) (with_slot_value slot.value) old.slots) (sym number)
            ∙ ap (change_first (λ (s : Slot). s.field == field.number) (with_slot_value slot.value)) slots;
      },
      is,
    )

-- ---- a record that is there, and differs in one field at most

none-there : (rs : List Record) (id : ℕ) → find (λ (x : Record). x.id == id) rs ≡ None → list_any (λ i. i == id) (map (λ (x : Record). x.id) rs) ≡ false
none-there [] id e = refl
none-there (r ∷ rs) id e =
    elim (r.id == id) as (λ (b : Bool). cond b (Some r) (find (λ (x : Record). x.id == id) rs) ≡ None → (b || list_any (λ i. i == id) (map (λ (x : Record). x.id) rs)) ≡ false) [
      | true ↦ λ h. absurd cc
      | false ↦ λ h. none-there rs id h
    ] e

module _ (info : ModelInfo) (d : Database) (r : Record) where
  is-there : IsChanged info d r → has_record d info.number r.id ≡ true
  is-there (inl same) = same.there
  is-there (inr one) = let set = one.2 in set.there

  pub changed-there : IsChanged info d r → None ≡ find (λ (x : Record). x.id == r.id) (records_of d info.number) → ⊥
  changed-there h none = let no = none-there (records_of d info.number) r.id (sym none) in let yes = is-there h in absurd cc

  module _ (old : Record) (old-is : Some old ≡ find (λ (x : Record). x.id == r.id) (records_of d info.number)) where
    slots : old.slots ≡ slots_of d info.number r.id
    slots = ap (λ o. option_map_or (λ (x : Record). x.slots) o []) old-is

    -- the change that was made
    abbrev pub change : IsChanged info d r → Option Slot
    change (inl same) = None
    change (inr one) = Some (record { field = one.0.number; value = one.1 })

    by-change : (h : IsChanged info d r) → r.slots ≡ changed_by (change h) old.slots
    by-change (inl same) = same.slots ∙ sym slots
    by-change (inr one) =
        let set = one.2 in
        set.slots ∙ ap (change_first (λ (slot : Slot). slot.field == one.0.number) (with_slot_value one.1)) (sym slots)

    pub unchanged-so : IsChanged info d r → FindsChange old.slots r.slots None → IsSetInto info d r d
    unchanged-so h finds = inl (record { there = is-there h; slots = finds (change h) (by-change h) ∙ slots }, refl)

    -- the slot that was found is set in its field
    pub record IsSetAt (slot : Slot) : Type 0 where
      pub field : FieldInfo
      pub known : find (λ (f : FieldInfo). f.number == slot.field) info.fields ≡ Some field
      pub fits : IsFitting d info.number r.id field slot.value
      pub changed : r.slots ≡ changed_by (Some slot) old.slots

    pub set-at : (slot : Slot) → IsChanged info d r → FindsChange old.slots r.slots (Some slot) → IsSetAt slot
    set-at slot (inl same) finds = let no = finds None (by-change (inl same)) in absurd cc
    set-at slot (inr one) finds =
        let set = one.2 in
        let made : Slot = record { field = one.0.number; value = one.1 } in
        let is : Some made ≡ Some slot = finds (Some made) (by-change (inr one)) in
        let same : made ≡ slot = cc in
        subst IsSetAt same (record { field = one.0; known = set.known; fits = set.fits; changed = by-change (inr one) })

    pub field-known : (slot : Slot) → IsSetAt slot → None ≡ find (λ (f : FieldInfo). f.number == slot.field) info.fields → ⊥
    field-known slot set none = let known = set.known in absurd cc

    pub field-fits : (slot : Slot) (field : FieldInfo) → IsSetAt slot → Some field ≡ find (λ (f : FieldInfo). f.number == slot.field) info.fields → IsFitting d info.number r.id field slot.value
    field-fits slot field set is =
        let known = set.known in
        let same : set.field ≡ field = cc in
        subst (λ (f : FieldInfo). IsFitting d info.number r.id f slot.value) same set.fits

    pub set-so : (slot : Slot) (field : FieldInfo) (after : Database) → IsChanged info d r → IsSetAt slot
        → Some field ≡ find (λ (f : FieldInfo). f.number == slot.field) info.fields → IsFitting d info.number r.id field slot.value
        → after ≡ with_field info.number r.id field.number slot.value d → IsSetInto info d r after
    set-so slot field after h set known fits is = set-of info d r old field slot after (is-there h) old-is set.changed known fits is
