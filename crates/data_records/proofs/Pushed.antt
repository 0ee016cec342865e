-- A table with one more record, in a list of tables.
use Rattle.std.proofs.Common.{◌≡◌, ℕ, zero, suc, ◌<◌, ◌+◌, Bool, true, false, List, [], ◌∷◌, ◌++◌, refl, ap, sym, ◌∙◌, subst, cond, arith, get_or, set, length, map}
use Rattle.std.specs.Prelude.{Some, None, ◌==◌, not, position, slice_get, Result, Ok, Err, OnErr, if◌then◌else◌}
use Rattle.std.proofs.Math.Logic.{⊎_elim}
use Rattle.std.specs.List.{find, AllByRecursion, sum_by, position_or_len}
use Rattle.std.specs.List.Sorted.{IsStrictlyIncreasing}
use Rattle.std.specs.Option.{option_map, option_map_or}
use Rattle.std.proofs.Math.Seq.{map-set_same}
use Rattle.std.proofs.lemmas.List.Folds.{find_at}
use Rattle.std.proofs.lemmas.Option.{slice_get-get_or}
use Rattle.std.proofs.Math.Dec.{ltb}
use Rattle.std.proofs.lemmas.Bool.{cases_order, ltb-true, ltb-false}
use Rattle.std.proofs.lemmas.List.{get_or_push, get_or_append_left, length_push}
use Rattle.std.proofs.lemmas.List.Sums.{sum_by-append, sum_by-cons}
use Rattle.data_records.proofs.Searches.{find-seen}
use Rattle.type_schema.specs.Schema.{FieldInfo}
use Rattle.data_meaning.specs.Values.{Value}
use Rattle.data_meaning.specs.Database.{Slot, Record, Table, Database}
use Rattle.data_records.specs.declared.table.Table as code_table
use Rattle.data_records.specs.Views.{table_data}
use Rattle.data_records.specs.Inserted.{change_table, next_of, with_record}
use Rattle.data_records.specs.Rows.{slots_from}
use Rattle.data_records.specs.Kept.{AreGiven, IsKept}
use Rattle.data_records.specs.Rising.{AreRising, ids_by}
use Rattle.data_records.specs.Room.{weight_of, row_weight, record_weight}

-- ---- the first table of the model, by its place

changed-first : (m : ℕ) (g : Table → Table) (ts : List code_table.Table) (i : ℕ) (u d : code_table.Table) → i ≡ position_or_len (λ t. t.model == m) ts → i < length ts
    → table_data u ≡ g (table_data (get_or ts i d)) → map table_data (set ts i u) ≡ change_table m g (map table_data ts)
changed-first m g [] i u d place below is = absurd (omega arith)
changed-first m g (t ∷ ts) i u d place below is =
    elim (t.model == m) as (λ (b : Bool). i ≡ cond (not b) (1 + position_or_len (λ t. t.model == m) ts) 0
    → map table_data (set (t ∷ ts) i u) ≡ (if b then g (table_data t) ∷ map table_data ts else table_data t ∷ change_table m g (map table_data ts))) [
      | true ↦ λ first.
          subst (λ k. map table_data (set (t ∷ ts) k u) ≡ g (table_data t) ∷ map table_data ts) (sym first)
          (ap (λ v. v ∷ map table_data ts) (subst (λ k. table_data u ≡ g (table_data (get_or (t ∷ ts) k d))) first is))
      | false ↦ λ later.
          let j = position_or_len (λ t. t.model == m) ts in
          let next : i ≡ suc j = omega arith in
          subst (λ k. map table_data (set (t ∷ ts) k u) ≡ table_data t ∷ change_table m g (map table_data ts)) (sym next)
          (ap (λ vs. table_data t ∷ vs)
          (changed-first m g ts j u d refl (omega arith) (subst (λ k. table_data u ≡ g (table_data (get_or (t ∷ ts) k d))) next is)))
    ] place

some-below : (n l i : ℕ) → cond (ltb n l) (Some n) None ≡ Some i → (i ≡ n) × (n < l)
some-below n l i h =
    elim (ltb n l) as (λ (b : Bool). ltb n l ≡ b → cond b (Some n) None ≡ Some i → (i ≡ n) × (n < l)) [
      | true ↦ λ e is. let same : i ≡ n = cc in (same, ltb-true n l e)
      | false ↦ λ e is. cc
    ] refl h

pub changed-at : (m : ℕ) (g : Table → Table) (ts : List code_table.Table) (i : ℕ) (u d : code_table.Table) → position (λ t. t.model == m) ts ≡ Some i
    → table_data u ≡ g (table_data (get_or ts i d)) → map table_data (set ts i u) ≡ change_table m g (map table_data ts)
changed-at m g ts i u d place is =
    let at = some-below (position_or_len (λ t. t.model == m) ts) (length ts) i place in
    changed-first m g ts i u d at.0 (omega (arith, at.0, at.1)) is

-- ---- ids that rise

increasing-push : (xs : List ℕ) (y : ℕ) → IsStrictlyIncreasing xs → ((k : ℕ) → k < length xs → get_or xs k 0 < y) → IsStrictlyIncreasing (xs ++ y ∷ [])
increasing-push xs y up below k within =
    let len = length_push xs y in
    ⊎_elim
    (λ (last : k + 1 ≡ length xs).
    rw (get_or_append_left xs (y ∷ []) 0 k (omega arith), get_or_push xs y 0 (k + 1) (sym last)) (below k (omega arith)))
    (λ rest. ⊎_elim
    (λ (inside : k + 1 < length xs).
    rw (get_or_append_left xs (y ∷ []) 0 k (omega arith), get_or_append_left xs (y ∷ []) 0 (k + 1) inside) (up k inside))
    (λ (past : length xs < k + 1). absurd (omega arith)) rest)
    (cases_order (k + 1) (length xs))

below-at : (n : ℕ) (rs : List Record) → AllByRecursion (λ (r : Record). r.id < n) rs → (k : ℕ) → k < length (ids_by rs) → get_or (ids_by rs) k 0 < n
below-at n [] all k within = absurd (omega arith)
below-at n (r ∷ rs) all zero within = all.0
below-at n (r ∷ rs) all (suc k) within = below-at n rs all.1 k (omega arith)

ids-push : (rs : List Record) (r : Record) → ids_by (rs ++ r ∷ []) ≡ ids_by rs ++ r.id ∷ []
ids-push [] r = refl
ids-push (u ∷ rs) r = ap (λ ids. u.id ∷ ids) (ids-push rs r)

pub rising-push : (rs : List Record) (r : Record) → IsStrictlyIncreasing (ids_by rs) → AllByRecursion (λ (u : Record). u.id < r.id) rs → IsStrictlyIncreasing (ids_by (rs ++ r ∷ []))
rising-push rs r up all = subst IsStrictlyIncreasing (sym (ids-push rs r)) (increasing-push (ids_by rs) r.id up (below-at r.id rs all))

given-push : (n : ℕ) (rs : List Record) (r : Record) → AllByRecursion (λ (u : Record). u.id < n) rs → r.id ≡ n → AllByRecursion (λ (u : Record). u.id < n + 1) (rs ++ r ∷ [])
given-push n [] r all is = (omega arith, tt)
given-push n (u ∷ rs) r all is = (omega (arith, all.0), given-push n rs r all.1 is)

-- ---- what is kept

module _ (m : ℕ) (r : Record) where
  rising-more : (d : Database) → AreRising d → AreGiven d → r.id ≡ next_of d m → AreRising (change_table m (with_record r) d)
  rising-more [] up given is = tt
  rising-more (t ∷ d) up given is =
      elim (t.model == m) as (λ (b : Bool). r.id ≡ option_map_or (λ (u : Table). u.next) (cond b (Some t) (find (λ (u : Table). u.model == m) d)) 1
      → AreRising (if b then with_record r t ∷ d else t ∷ change_table m (with_record r) d)) [
        | true ↦ λ id. (rising-push t.records r up.0 (subst (λ n. AllByRecursion (λ (u : Record). u.id < n) t.records) (sym id) given.0), up.1)
        | false ↦ λ id. (up.0, rising-more d up.1 given.1 id)
      ] is

  given-more : (d : Database) → AreGiven d → r.id ≡ next_of d m → AreGiven (change_table m (with_record r) d)
  given-more [] given is = tt
  given-more (t ∷ d) given is =
      elim (t.model == m) as (λ (b : Bool). r.id ≡ option_map_or (λ (u : Table). u.next) (cond b (Some t) (find (λ (u : Table). u.model == m) d)) 1
      → AreGiven (if b then with_record r t ∷ d else t ∷ change_table m (with_record r) d)) [
        | true ↦ λ id. (given-push t.next t.records r given.0 id, given.1)
        | false ↦ λ id. (given.0, given-more d given.1 id)
      ] is

  -- a number that each table has, and that rises by this much with the record
  added : (size : Table → ℕ) (more : ℕ) → ((t : Table) → size (with_record r t) ≡ size t + more) → (d : Database) (t : Table)
      → find (λ (u : Table). u.model == m) d ≡ Some t → sum_by size (change_table m (with_record r) d) ≡ sum_by size d + more
  added size more step [] t found = cc
  added size more step (u ∷ d) t found =
      elim (u.model == m) as (λ (b : Bool). cond b (Some u) (find (λ (v : Table). v.model == m) d) ≡ Some t
      → sum_by size (if b then with_record r u ∷ d else u ∷ change_table m (with_record r) d) ≡ sum_by size (u ∷ d) + more) [
        | true ↦ λ h. omega (arith, sum_by-cons size (with_record r u) d, sum_by-cons size u d, step u)
        | false ↦ λ h. omega (arith, sum_by-cons size u (change_table m (with_record r) d), sum_by-cons size u d, added size more step d t h)
      ] found

  pub kept-more : (count weight : ℕ) (d : Database) (t : Table) → IsKept count weight d → find (λ (u : Table). u.model == m) d ≡ Some t → r.id ≡ next_of d m
      → IsKept (count + 1) (weight + record_weight r) (change_table m (with_record r) d)
  kept-more count weight d t kept found id = record {
    rising = rising-more d kept.rising kept.given id;
    given = given-more d kept.given id;
    counted = ap (λ n. n + 1) kept.counted ∙ sym (added (λ (u : Table). length u.records) 1 (λ u. length_push u.records r) d t found);
    weighed =
        ap (λ n. n + record_weight r) kept.weighed
        ∙ sym (added (λ (u : Table). sum_by record_weight u.records) (record_weight r) (λ u. omega (arith, sum_by-append record_weight u.records (r ∷ []), sum_by-cons record_weight r [])) d t found);
  }

-- ---- no table of the model, no change

pub unchanged : (m : ℕ) (g : Table → Table) (ts : List code_table.Table) → position (λ t. t.model == m) ts ≡ None → change_table m g (map table_data ts) ≡ map table_data ts
unchanged m g ts none = none-first ts (λ below. let h = all-below none below in h)
  where
    all-below : position (λ t. t.model == m) ts ≡ None → position_or_len (λ t. t.model == m) ts < length ts → ⊥
    all-below e below =
        elim (ltb (position_or_len (λ t. t.model == m) ts) (length ts)) as (λ (b : Bool). ltb (position_or_len (λ t. t.model == m) ts) (length ts) ≡ b
        → cond b (Some (position_or_len (λ t. t.model == m) ts)) None ≡ None → ⊥) [
          | true ↦ λ t h. cc
          | false ↦ λ f h. absurd (omega (arith, ltb-false (position_or_len (λ t. t.model == m) ts) (length ts) f, below))
        ] refl e

    none-first : (ts : List code_table.Table) → (position_or_len (λ t. t.model == m) ts < length ts → ⊥) → change_table m g (map table_data ts) ≡ map table_data ts
    none-first [] none = refl
    none-first (t ∷ ts) none =
        elim (t.model == m) as (λ (b : Bool). (cond (not b) (1 + position_or_len (λ t. t.model == m) ts) 0 < suc (length ts) → ⊥)
        → (if b then g (table_data t) ∷ map table_data ts else table_data t ∷ change_table m g (map table_data ts)) ≡ table_data t ∷ map table_data ts) [
          | true ↦ λ h. absurd (h (omega arith))
          | false ↦ λ h. ap (λ us. table_data t ∷ us) (none-first ts (λ below. h (omega arith)))
        ] none

-- ---- what stands at the place

pub found-at : (m : ℕ) (ts : List code_table.Table) (i : ℕ) (d : code_table.Table) → position (λ t. t.model == m) ts ≡ Some i
    → find (λ (t : Table). t.model == m) (map table_data ts) ≡ Some (table_data (get_or ts i d))
found-at m ts i d place =
    let at = some-below (position_or_len (λ t. t.model == m) ts) (length ts) i place in
    find-seen (λ (t : Table). t.model == m) table_data ts
    ∙ ap (option_map table_data) (find_at (λ t. t.model == m) ts ∙ ap (slice_get ts) (sym at.0) ∙ slice_get-get_or ts i d (omega (arith, at.0, at.1)))

pub next-at : (m : ℕ) (ts : List code_table.Table) (i : ℕ) (d : code_table.Table) → position (λ t. t.model == m) ts ≡ Some i → next_of (map table_data ts) m ≡ (get_or ts i d).next
next-at m ts i d place = ap (λ o. option_map_or (λ (t : Table). t.next) o 1) (found-at m ts i d place)

pub same-at : (ts : List code_table.Table) (i : ℕ) (u d : code_table.Table) → table_data u ≡ table_data (get_or ts i d) → map table_data (set ts i u) ≡ map table_data ts
same-at ts i u d same = map-set_same table_data ts i u d same

pub on-err : {T E P : Type 0} (r : Result T E) → P → OnErr r P
on-err (Ok x) p = tt
on-err (Err e) p = p

-- ---- the weight of a row

pub slots-weight : (fields : List FieldInfo) (row : List Value) → length fields ≡ length row → sum_by (λ (slot : Slot). weight_of slot.value) (slots_from fields row) ≡ row_weight row
slots-weight [] [] same = refl
slots-weight [] (v ∷ row) same = cc
slots-weight (f ∷ fields) [] same = cc
slots-weight (f ∷ fields) (v ∷ row) same =
    omega (
      arith,
      sum_by-cons (λ (slot : Slot). weight_of slot.value) (record { field = f.number; value = v }) (slots_from fields row),
      sum_by-cons weight_of v row,
      slots-weight fields row (omega arith),
    )
