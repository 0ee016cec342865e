-- What is known of a place in a database in memory, and of the value that stands there.
use Rattle.std.proofs.Common.{◌≡◌, ℕ, zero, suc, ◌<◌, ◌≤◌, ◌+◌, ◌-◌, Bool, true, false, ◌&&◌, ◌||◌, not, List, [], ◌∷◌, refl, ap, sym, ◌∙◌, subst, cond, arith, get_or, length, map}
use Rattle.std.specs.Prelude.{Option, Some, None, ◌==◌, is_some, IfSome, if◌then◌else◌, option_and_then}
use Rattle.std.specs.List.{find, list_any}
use Rattle.std.specs.List.Sorted.{IsStrictlyIncreasing}
use Rattle.std.specs.Option.{option_map, option_map_or}
use Rattle.std.proofs.lemmas.Bool.{eqb-true}
use Rattle.type_schema.specs.declared.types.TTy.{TTy}
use Rattle.type_schema.specs.declared.schemas.FieldInfo as code_field
use Rattle.type_schema.specs.declared.schemas.ModelInfo as code_model
use Rattle.type_schema.specs.Schema.{FieldInfo}
use Rattle.type_schema.specs.SchemaViews.{field_info_of, model_info_of}
use Rattle.data_meaning.specs.Values.{Value, Nothing, ids_in}
use Rattle.data_meaning.specs.Database.{Slot, Record, Table, Database, table_of, records_of, slots_of, has_record, field_at}
use Rattle.data_records.specs.declared.record.Record as code_record
use Rattle.data_records.specs.declared.references.Reference.{Reference}
use Rattle.data_records.specs.declared.table.Table as code_table
use Rattle.data_records.specs.Changed.{has_field}
use Rattle.data_records.specs.Inserted.{is_there_or}
use Rattle.data_records.specs.Kept.{IsKept}
use Rattle.data_records.specs.Removed.{first_given, is_of_model, names, reference_from, without_first, without_record, without_record_in}
use Rattle.data_records.specs.Rising.{AreRising}
use Rattle.data_records.specs.Room.{record_weight, record_count, total_weight}
use Rattle.data_records.specs.Shape.{dangling_in, model_named}
use Rattle.data_records.specs.Views.{record_data, table_data}
use Rattle.data_records.proofs.Changes.{Located, located, field_is, id_is, model_is, size, kept-without, record-found, row-within, some-of, value-is}
use Rattle.data_records.proofs.Firsts.{length-without, size-within}
use Rattle.data_records.proofs.Searches.{find-seen}
use Rattle.data_records.proofs.Tables.{any-found, ids-seen}

-- ---- tables at their places

pub rising-at : (ts : List code_table.Table) (i : ℕ) (d : code_table.Table) → AreRising (map table_data ts) → i < length ts
    → IsStrictlyIncreasing (map (λ r. r.id) (get_or ts i d).records.items)
rising-at [] i d up below = absurd (omega arith)
rising-at (t ∷ ts) zero d up below = subst IsStrictlyIncreasing (ids-seen t.records.items) up.0
rising-at (t ∷ ts) (suc i) d up below = rising-at ts i d up.1 (omega arith)

-- ---- the value of a field

pub record Found (d : Database) (m id f : ℕ) (v : Value) : Type 0 where
  pub at : Located d m id
  pub there : has_record d m id ≡ true
  pub has : has_field d m id f ≡ true
  pub slot : Slot
  pub slot_is : find (field_is f) (slots_of d m id) ≡ Some slot
  pub value : slot.value ≡ v
  pub field : field_at d m id f ≡ v

pub row-there : (d : Database) (m id f : ℕ) (slot : Slot) → find (field_is f) (slots_of d m id) ≡ Some slot → has_record d m id ≡ true
row-there d m id f slot found = any-found id (records_of d m) ∙ some-row (find (id_is id) (records_of d m)) found
  where
    some-row : (o : Option Record) → find (field_is f) (option_map_or (λ (r : Record). r.slots) o []) ≡ Some slot → is_some o ≡ true
    some-row None h = cc
    some-row (Some r) h = refl

pub value-found : (d : Database) (m id f : ℕ) (v : Value) → Some v ≡ option_map (λ (slot : Slot). slot.value) (find (field_is f) (slots_of d m id)) → Found d m id f v
value-found d m id f v is = by-slot (find (field_is f) (slots_of d m id)) refl is
  where
    by-slot : (o : Option Slot) → find (field_is f) (slots_of d m id) ≡ o → Some v ≡ option_map (λ (slot : Slot). slot.value) o → Found d m id f v
    by-slot None found h = cc
    by-slot (Some slot) found h =
        let there = row-there d m id f slot found in
        let at = located d m id there in
        let same : slot.value ≡ v = cc in
        record { at = at; there = there; has = ap (λ u. is_some u) found; slot = slot; slot_is = found; value = same; field = value-is at f slot found ∙ same }

pub value-nowhere : (d : Database) (m id f : ℕ) → None ≡ option_map (λ (slot : Slot). slot.value) (find (field_is f) (slots_of d m id)) → has_field d m id f ≡ false
value-nowhere d m id f is = go (find (field_is f) (slots_of d m id)) is
  where
    go : (o : Option Slot) → None ≡ option_map (λ (slot : Slot). slot.value) o → is_some o ≡ false
    go None h = refl
    go (Some slot) h = cc

-- a field that is there, with its slot
pub slot-there : (d : Database) (m id f : ℕ) → has_field d m id f ≡ true → (slot : Slot) × (find (field_is f) (slots_of d m id) ≡ Some slot)
slot-there d m id f has = some-of (find (field_is f) (slots_of d m id)) has

-- a record that is there needs no other leave
pub there-same : (d : Database) (m id : ℕ) → has_record d m id ≡ true → (t : TTy) (v : Value) → dangling_in (is_there_or d m id) t v ≡ dangling_in (has_record d) t v
there-same d m id there t v = by-model (model_named t)
  where
    one : (n i : ℕ) → is_there_or d m id n i ≡ has_record d n i
    one n i =
        elim (n == m) as (λ (b : Bool). (n == m) ≡ b → (has_record d n i || (b && (i == id))) ≡ has_record d n i) [
          | true ↦ λ model. elim (i == id) as (λ (b : Bool). (i == id) ≡ b → (has_record d n i || b) ≡ has_record d n i) [
            | true ↦ λ same.
                let was : has_record d n i ≡ true = ap (λ k. has_record d k i) (eqb-true n m model) ∙ ap (has_record d m) (eqb-true i id same) ∙ there in
                ap (λ b. b || true) was ∙ sym was
            | false ↦ λ same. or-false (has_record d n i)
          ] refl
          | false ↦ λ model. or-false (has_record d n i)
        ] refl
      where
        or-false : (b : Bool) → (b || false) ≡ b
        or-false true = refl
        or-false false = refl

    each : (n : ℕ) (ids : List ℕ) → find (λ i. not (is_there_or d m id n i)) ids ≡ find (λ i. not (has_record d n i)) ids
    each n [] = refl
    each n (i ∷ ids) =
        ap (λ b. cond (not b) (Some i) (find (λ j. not (is_there_or d m id n j)) ids)) (one n i) ∙ ap (λ o. cond (not (has_record d n i)) (Some i) o) (each n ids)

    by-model : (o : Option ℕ) → option_and_then (λ n. find (λ i. not (is_there_or d m id n i)) (ids_in v)) o ≡ option_and_then (λ n. find (λ i. not (has_record d n i)) (ids_in v)) o
    by-model None = refl
    by-model (Some n) = each n (ids_in v)

-- ---- a record taken out

pub row-is : (d : Database) (m id : ℕ) (r : Record) → find (id_is id) (records_of d m) ≡ Some r → has_record d m id ≡ true
row-is d m id r found = any-found id (records_of d m) ∙ ap (λ o. is_some o) found

pub one-record : (d : Database) (m id : ℕ) → Located d m id → 1 ≤ record_count d
one-record d m id at = omega (arith, size-within size (model_is m) d at.table at.table_is, length-without (id_is id) at.table.records at.row at.row_is)

pub kept-taken : (count weight w : ℕ) (d : Database) (m id : ℕ) (at : Located d m id) → IsKept count weight d → w ≡ total_weight d - record_weight at.row
    → IsKept (count - 1) w (without_record m id d)
kept-taken count weight w d m id at kept is =
    let counted = kept.counted in
    let weighed = kept.weighed in
    let one : (count - 1) + 1 ≡ count = omega (arith, counted, one-record d m id at) in
    let rest : w + record_weight at.row ≡ weight = omega (arith, weighed, is, row-within d m id at) in
    kept-without (count - 1) w d m id at (subst (λ n. IsKept n (w + record_weight at.row) d) (sym one) (subst (λ n. IsKept count n d) (sym rest) kept))

without-none : (id : ℕ) (rs : List Record) → None ≡ find (id_is id) rs → rs ≡ without_first (id_is id) rs
without-none id [] none = refl
without-none id (r ∷ rs) none =
    elim (r.id == id) as (λ (b : Bool). None ≡ cond b (Some r) (find (id_is id) rs) → r ∷ rs ≡ (if b then rs else r ∷ without_first (id_is id) rs)) [
      | true ↦ λ h. cc
      | false ↦ λ h. ap (λ us. r ∷ us) (without-none id rs h)
    ] none

none-mapped : {A B : Type 0} (g : A → B) (o : Option A) → None ≡ option_map g o → None ≡ o
none-mapped g None none = refl
none-mapped g (Some x) none = cc

-- no such record, no change
pub none-erased : {A : Type 0} (m id : ℕ) (g : Record → A) (d : Database) → None ≡ option_map g (find (id_is id) (records_of d m)) → d ≡ without_record m id d
none-erased m id g [] none = refl
none-erased m id g (t ∷ d) none =
    elim (t.model == m) as (λ (b : Bool). None ≡ option_map g (find (id_is id) (option_map_or (λ (u : Table). u.records) (cond b (Some t) (table_of d m)) []))
    → t ∷ d ≡ (if b then without_record_in id t ∷ d else t ∷ without_record m id d)) [
      | true ↦ λ h. ap (λ rs. record { model = t.model; next = t.next; records = rs } ∷ d) (without-none id t.records (none-mapped g (find (id_is id) t.records) h))
      | false ↦ λ h. ap (λ ts. t ∷ ts) (none-erased m id g d h)
    ] none

pub if-found : {A : Type 0} (P : A → Type 0) (o : Option A) (x : A) → o ≡ Some x → IfSome o P → P x
if-found P None x is h = cc
if-found P (Some y) x is h = let same : y ≡ x = cc in subst P same h

-- ---- fields that name a record

pub reference-is : (m id : ℕ) (info : code_model.ModelInfo) (from : code_record.Record) (o : Option code_field.FieldInfo) → ((info.number == m) && (from.id == id)) ≡ false
    → o ≡ find (λ f. names m id (record_data from) (field_info_of f)) info.fields
    → reference_from m id (model_info_of info) (record_data from) ≡ option_map (λ f. record { model = info.number; id = from.id; field = f.number }) o
reference-is m id info from o other is =
    ap (λ b. if b then None else option_map make (find (names m id (record_data from)) (map field_info_of info.fields))) other
    ∙ ap (option_map make) (find-seen (names m id (record_data from)) field_info_of info.fields ∙ ap (option_map field_info_of) (sym is)) ∙ twice o
  where
    make : FieldInfo → Reference
    make f = record { model = info.number; id = from.id; field = f.number }

    twice : (o : Option code_field.FieldInfo) → option_map make (option_map field_info_of o) ≡ option_map (λ f. record { model = info.number; id = from.id; field = f.number }) o
    twice None = refl
    twice (Some f) = refl

pub none-given : {A B : Type 0} (f : A → Option B) (xs : List A) → ((x : A) → f x ≡ None) → first_given f xs ≡ None
none-given f [] none = refl
none-given f (x ∷ xs) none = ap (λ o. option_map_or Some o (first_given f xs)) (none x) ∙ none-given f xs none

pub none-names : (m id : ℕ) (info : code_model.ModelInfo) → list_any (λ f. is_of_model m f.ty) info.fields ≡ false → (r : Record) → reference_from m id (model_info_of info) r ≡ None
none-names m id info none r =
    ap (λ o. if (info.number == m) && (r.id == id) then None else option_map make o) (nowhere info.fields none) ∙ either ((info.number == m) && (r.id == id))
  where
    make : FieldInfo → Reference
    make f = record { model = info.number; id = r.id; field = f.number }

    either : (b : Bool) → (if b then None else option_map make None) ≡ None
    either true = refl
    either false = refl

    nowhere : (fs : List code_field.FieldInfo) → list_any (λ f. is_of_model m f.ty) fs ≡ false → find (names m id r) (map field_info_of fs) ≡ None
    nowhere [] h = refl
    nowhere (f ∷ fs) h =
        elim (is_of_model m f.ty) as (λ (b : Bool). (b || list_any (λ g. is_of_model m g.ty) fs) ≡ false
        → cond (b && list_any (λ i. i == id) (ids_in (option_map_or (λ (slot : Slot). slot.value) (find (λ (slot : Slot). slot.field == f.number) r.slots) Nothing))) (Some (field_info_of f)) (find (names m id r) (map field_info_of fs)) ≡ None) [
          | true ↦ λ k. cc
          | false ↦ λ k. nowhere fs k
        ] h

-- ---- whether a record is there

pub row-weighs : (d : Database) (m id : ℕ) (r : Record) → find (id_is id) (records_of d m) ≡ Some r → record_weight r ≤ total_weight d
row-weighs d m id r found =
    let at = located d m id (row-is d m id r found) in
    let same : at.row ≡ r = cc (found, record-found at) in
    subst (λ (u : Record). record_weight u ≤ total_weight d) same (row-within d m id at)

pub row-some : {A : Type 0} (d : Database) (m id : ℕ) (g : Record → A) (x : A) → Some x ≡ option_map g (find (id_is id) (records_of d m)) → has_record d m id ≡ true
row-some {A} d m id g x h = any-found id (records_of d m) ∙ go (find (id_is id) (records_of d m)) h
  where
    go : (o : Option Record) → Some x ≡ option_map g o → is_some o ≡ true
    go None h = cc
    go (Some r) h = refl

pub row-none : {A : Type 0} (d : Database) (m id : ℕ) (g : Record → A) → None ≡ option_map g (find (id_is id) (records_of d m)) → has_record d m id ≡ false
row-none {A} d m id g h = any-found id (records_of d m) ∙ go (find (id_is id) (records_of d m)) h
  where
    go : (o : Option Record) → None ≡ option_map g o → is_some o ≡ false
    go None h = refl
    go (Some r) h = cc
