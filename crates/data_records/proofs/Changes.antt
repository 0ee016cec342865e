-- Databases with a changed field or without a record: what is kept, and what they weigh.
use Rattle.std.proofs.Common.{◌≡◌, ℕ, ◌<◌, ◌≤◌, ◌+◌, Bool, true, false, List, [], ◌∷◌, refl, ap, sym, ◌∙◌, subst, arith, length}
use Rattle.std.specs.Prelude.{Option, Some, None, ◌==◌, is_some, if◌then◌else◌}
use Rattle.std.specs.List.{find, sum_by, AllByRecursion}
use Rattle.std.specs.List.Sorted.{IsStrictlyIncreasing, IsStrictlySortedBy}
use Rattle.std.specs.Option.{option_map_or}
use Rattle.std.specs.Ordering.{nat_cmp}
use Rattle.std.specs.declared.cmp.Ordering.TheVariants.{Less}
use Rattle.std.proofs.lemmas.List.Sums.{sum_by-cons}
use Rattle.std.proofs.lemmas.Map.Keys.{IsStrictlyIncreasing-from_sorted, sorted_from_strictly_increasing}
use Rattle.data_meaning.specs.Values.{Value, Nothing}
use Rattle.data_meaning.specs.Database.{Slot, Record, Table, Database, table_of, records_of, has_record, slots_of, field_at}
use Rattle.data_records.specs.Changed.{change_first, with_slot_value, with_value, with_value_in, with_field}
use Rattle.data_records.specs.Removed.{without_first, without_record_in, without_record}
use Rattle.data_records.specs.Inserted.{change_table}
use Rattle.data_records.specs.Kept.{AreGiven, IsKept}
use Rattle.data_records.specs.Rising.{AreRising, ids_by}
use Rattle.data_records.specs.Room.{weight_of, record_weight, record_count, total_weight}
use Rattle.data_records.proofs.Tables.{any-found}
use Rattle.data_records.proofs.Firsts.{sum-changed, sum-without, size-within, length-changed, length-without, all-without, all-changed}

-- ---- where a record stands

abbrev pub model_is : ℕ → Table → Bool
model_is m t = t.model == m

abbrev pub id_is : ℕ → Record → Bool
id_is id r = r.id == id

abbrev pub field_is : ℕ → Slot → Bool
field_is f slot = slot.field == f

pub record Located (d : Database) (m id : ℕ) : Type 0 where
  pub table : Table
  pub row : Record
  pub table_is : table_of d m ≡ Some table
  pub row_is : find (id_is id) table.records ≡ Some row

pub some-of : {A : Type 0} (o : Option A) → is_some o ≡ true → (x : A) × (o ≡ Some x)
some-of None h = cc
some-of (Some x) h = (x, refl)

pub located : (d : Database) (m id : ℕ) → has_record d m id ≡ true → Located d m id
located d m id there = in-table (table_of d m) refl (sym (any-found id (records_of d m)) ∙ there)
  where
    in-table : (o : Option Table) → table_of d m ≡ o → is_some (find (id_is id) (records_of d m)) ≡ true → Located d m id
    in-table None is some = let none : find (id_is id) (records_of d m) ≡ None = ap (λ o. find (id_is id) (option_map_or (λ (t : Table). t.records) o [])) is in cc
    in-table (Some t) is some =
        let here : find (id_is id) (records_of d m) ≡ find (id_is id) t.records = ap (λ o. find (id_is id) (option_map_or (λ (u : Table). u.records) o [])) is in
        let one = some-of (find (id_is id) t.records) (ap (λ o. is_some o) (sym here) ∙ some) in
        record { table = t; row = one.0; table_is = is; row_is = one.1 }

module _ {d : Database} {m id : ℕ} (at : Located d m id) where
  records-are : records_of d m ≡ at.table.records
  records-are = ap (λ o. option_map_or (λ (t : Table). t.records) o []) at.table_is

  pub record-found : find (id_is id) (records_of d m) ≡ Some at.row
  record-found = ap (find (id_is id)) records-are ∙ at.row_is

  pub slots-are : slots_of d m id ≡ at.row.slots
  slots-are = ap (λ o. option_map_or (λ (r : Record). r.slots) o []) record-found

  pub value-is : (f : ℕ) (slot : Slot) → find (field_is f) (slots_of d m id) ≡ Some slot → field_at d m id f ≡ slot.value
  value-is f slot found = ap (λ o. option_map_or (λ (s : Slot). s.value) o Nothing) found

  pub slot-found : (f : ℕ) (slot : Slot) → find (field_is f) (slots_of d m id) ≡ Some slot → find (field_is f) at.row.slots ≡ Some slot
  slot-found f slot found = ap (find (field_is f)) (sym slots-are) ∙ found

-- ---- tables

pub tables-changed : (m : ℕ) (g : Table → Table) (d : Database) → change_table m g d ≡ change_first (model_is m) g d
tables-changed m g [] = refl
tables-changed m g (t ∷ d) = ap (λ ts. if t.model == m then g t ∷ d else t ∷ ts) (tables-changed m g d)

-- ---- a value in place of another

abbrev slot_weight : Slot → ℕ
slot_weight slot = weight_of slot.value

abbrev table_weight : Table → ℕ
table_weight t = sum_by record_weight t.records

pub weight-within : (d : Database) (m id f : ℕ) (slot : Slot) → Located d m id → find (field_is f) (slots_of d m id) ≡ Some slot
    → weight_of slot.value ≤ total_weight d
weight-within d m id f slot at found =
    omega (
      arith,
      size-within slot_weight (field_is f) at.row.slots slot (slot-found at f slot found),
      size-within record_weight (id_is id) at.table.records at.row at.row_is,
      size-within table_weight (model_is m) d at.table at.table_is,
    )

pub row-within : (d : Database) (m id : ℕ) (at : Located d m id) → record_weight at.row ≤ total_weight d
row-within d m id at =
    omega (
      arith,
      size-within record_weight (id_is id) at.table.records at.row at.row_is,
      size-within table_weight (model_is m) d at.table at.table_is,
    )

pub weight-changed : (d : Database) (m id f : ℕ) (v : Value) (slot : Slot) → Located d m id → find (field_is f) (slots_of d m id) ≡ Some slot
    → total_weight (with_field m id f v d) + weight_of slot.value ≡ total_weight d + weight_of v
weight-changed d m id f v slot at found =
    let slots = sum-changed slot_weight (field_is f) (with_slot_value v) at.row.slots slot (slot-found at f slot found) in
    let rows = sum-changed record_weight (id_is id) (with_value f v) at.table.records at.row at.row_is in
    let tables = sum-changed table_weight (model_is m) (with_value_in id f v) d at.table at.table_is in
    let all : total_weight (with_field m id f v d) ≡ sum_by table_weight (change_first (model_is m) (with_value_in id f v) d)
    = ap (sum_by table_weight) (tables-changed m (with_value_in id f v) d) in
    omega (arith, slots, rows, tables, all)

pub ids-changed : (id f : ℕ) (v : Value) (rs : List Record) → ids_by (change_first (id_is id) (with_value f v) rs) ≡ ids_by rs
ids-changed id f v [] = refl
ids-changed id f v (r ∷ rs) =
    elim (r.id == id) as (λ (b : Bool). ids_by (if b then with_value f v r ∷ rs else r ∷ change_first (id_is id) (with_value f v) rs) ≡ r.id ∷ ids_by rs) [
      | true ↦ refl
      | false ↦ ap (λ ids. r.id ∷ ids) (ids-changed id f v rs)
    ]

abbrev pub size : Table → ℕ
size t = length t.records

pub kept-changed : (count weight new : ℕ) (d : Database) (m id f : ℕ) (v : Value) → IsKept count weight d → new ≡ total_weight (with_field m id f v d)
    → IsKept count new (with_field m id f v d)
kept-changed count weight new d m id f v kept is =
    let same = tables-changed m (with_value_in id f v) d in
    record {
      rising = subst AreRising (sym same)
          (all-changed (λ (t : Table). IsStrictlyIncreasing (ids_by t.records)) (model_is m) (with_value_in id f v)
          (λ t up. subst IsStrictlyIncreasing (sym (ids-changed id f v t.records)) up) d kept.rising);
      given = subst AreGiven (sym same)
          (all-changed (λ (t : Table). AllByRecursion (λ (r : Record). r.id < t.next) t.records) (model_is m) (with_value_in id f v)
          (λ t given. all-changed (λ (r : Record). r.id < t.next) (id_is id) (with_value f v) (λ r below. below) t.records given) d kept.given);
      counted = kept.counted ∙ sym (count-changed d);
      weighed = is;
    }
  where
    count-changed : (d : Database) → record_count (with_field m id f v d) ≡ record_count d
    count-changed [] = refl
    count-changed (t ∷ d) =
        elim (t.model == m) as (λ (b : Bool). record_count (if b then with_value_in id f v t ∷ d else t ∷ with_field m id f v d) ≡ record_count (t ∷ d)) [
          | true ↦ omega (arith, sum_by-cons size (with_value_in id f v t) d, sum_by-cons size t d, length-changed (id_is id) (with_value f v) t.records)
          | false ↦ omega (arith, sum_by-cons size t (with_field m id f v d), sum_by-cons size t d, count-changed d)
        ]

-- ---- a record taken out

pub rising-without : (id : ℕ) (rs : List Record) → IsStrictlySortedBy nat_cmp (ids_by rs) → IsStrictlySortedBy nat_cmp (ids_by (without_first (id_is id) rs))
unfolding IsStrictlySortedBy
rising-without id [] up = tt
rising-without id (r ∷ rs) up =
    elim (r.id == id) as (λ (b : Bool). IsStrictlySortedBy nat_cmp (ids_by (if b then rs else r ∷ without_first (id_is id) rs))) [
      | true ↦ up.1
      | false ↦ (ids-without (λ i. nat_cmp r.id i ≡ Less) rs up.0, rising-without id rs up.1)
    ]
  where
    ids-without : (P : ℕ → Type 0) (rs : List Record) → AllByRecursion P (ids_by rs) → AllByRecursion P (ids_by (without_first (id_is id) rs))
    ids-without P [] all = tt
    ids-without P (r ∷ rs) all =
        elim (r.id == id) as (λ (b : Bool). AllByRecursion P (ids_by (if b then rs else r ∷ without_first (id_is id) rs))) [
          | true ↦ all.1
          | false ↦ (all.0, ids-without P rs all.1)
        ]

pub kept-without : (count weight : ℕ) (d : Database) (m id : ℕ) (at : Located d m id) → IsKept (count + 1) (weight + record_weight at.row) d
    → IsKept count weight (without_record m id d)
kept-without count weight d m id at kept =
    let same = tables-changed m (without_record_in id) d in
    let rows = sum-without record_weight (id_is id) at.table.records at.row at.row_is in
    let tables = sum-changed table_weight (model_is m) (without_record_in id) d at.table at.table_is in
    let counts = sum-changed (λ (t : Table). length t.records) (model_is m) (without_record_in id) d at.table at.table_is in
    let lengths = length-without (id_is id) at.table.records at.row at.row_is in
    record {
      rising = subst AreRising (sym same)
          (all-changed (λ (t : Table). IsStrictlyIncreasing (ids_by t.records)) (model_is m) (without_record_in id)
          (λ t up. IsStrictlyIncreasing-from_sorted (ids_by (without_first (id_is id) t.records)) (rising-without id t.records (sorted_from_strictly_increasing (ids_by t.records) up))) d kept.rising);
      given = subst AreGiven (sym same)
          (all-changed (λ (t : Table). AllByRecursion (λ (r : Record). r.id < t.next) t.records) (model_is m) (without_record_in id)
          (λ t given. all-without (λ (r : Record). r.id < t.next) (id_is id) t.records given) d kept.given);
      counted = subst (λ e. count ≡ record_count e) (sym same) (omega (arith, kept.counted, counts, lengths));
      weighed = subst (λ e. weight ≡ total_weight e) (sym same) (omega (arith, kept.weighed, tables, rows));
    }
