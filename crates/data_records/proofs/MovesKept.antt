-- What a database in memory keeps when its models and fields come and go.
use Rattle.std.proofs.Common.{◌≡◌, ℕ, ◌+◌, ◌<◌, ◌≤◌, ◌^◌, Bool, true, false, List, [], ◌∷◌, refl, ap, sym, ◌∙◌, subst, arith, length, map}
use Rattle.std.specs.Prelude.{Option, Some, None, MatchOption, not, ◌==◌, if◌then◌else◌}
use Rattle.std.specs.Option.{unwrap_or}
use Rattle.std.specs.List.{AllByRecursion, sum_by}
use Rattle.std.specs.List.Sorted.{IsStrictlyIncreasing}
use Rattle.std.proofs.lemmas.Bool.{eq-eqb, ne_eqb}
use Rattle.std.proofs.lemmas.List.{length-map}
use Rattle.std.proofs.lemmas.List.Filters.{sum_by-filter_both}
use Rattle.std.proofs.lemmas.List.Sums.{sum_by-cons, sum_by_push}
use Rattle.type_schema.specs.Schema.{ModelInfo}
use Rattle.data_meaning.specs.Values.{Value}
use Rattle.data_meaning.specs.Database.{Slot, Record, Table, Database, table_of}
use Rattle.data_meaning.proofs.Carried.{all-append, all-filtered}
use Rattle.data_records.specs.Inserted.{empty_table}
use Rattle.data_records.specs.Kept.{AreGiven, IsKept}
use Rattle.data_records.specs.Moved.{with_table, without_table, without_slot, without_field, without_field_in, with_slot, with_slots, with_slots_in, with_new_field}
use Rattle.data_records.specs.Rising.{AreRising, ids_by}
use Rattle.data_records.specs.Room.{weight_of, record_weight, record_count, total_weight}
use Rattle.data_records.proofs.Changes.{model_is, tables-changed}
use Rattle.data_records.proofs.Firsts.{all-changed, sum-changed}

-- a sum that is there, since it is no more than a number has
pub sum-there : (o : Option ℕ) (sum other : ℕ) → MatchOption o (2 ^ 64 ≤ sum) (λ n. n ≡ sum) → sum < 2 ^ 64 → unwrap_or o other ≡ sum
sum-there None sum other past below = absurd (omega (arith, past, below))
sum-there (Some n) sum other is below = is

abbrev size : Table → ℕ
size t = length t.records

abbrev table_weight : Table → ℕ
table_weight t = sum_by record_weight t.records

abbrev IsRising : Table → Type 0
IsRising t = IsStrictlyIncreasing (ids_by t.records)

abbrev IsGiven : Table → Type 0
IsGiven t = AllByRecursion (λ (r : Record). r.id < t.next) t.records

-- ---- one more table

pub kept-with : (count weight : ℕ) (info : ModelInfo) (d : Database) → IsKept count weight d → IsKept count weight (with_table info d)
kept-with count weight info d kept = record {
  rising = all-append IsRising d (empty_table info ∷ []) kept.rising ((λ k below. absurd (omega arith)), tt);
  given = all-append IsGiven d (empty_table info ∷ []) kept.given (tt, tt);
  counted = omega (arith, kept.counted, sum_by_push size d (empty_table info));
  weighed = omega (arith, kept.weighed, sum_by_push table_weight d (empty_table info));
}

-- ---- fewer tables

module _ (m : ℕ) where
  abbrev stays : Table → Bool
  stays t = not (t.model == m)

  pub count-less : (d : Database) → record_count (without_table m d) ≤ record_count d
  count-less d = omega (arith, sum_by-filter_both stays (λ t. not (stays t)) (λ _. refl) size d)

  pub weight-less : (d : Database) → total_weight (without_table m d) ≤ total_weight d
  weight-less d = omega (arith, sum_by-filter_both stays (λ t. not (stays t)) (λ _. refl) table_weight d)

  pub kept-less : (count weight some more : ℕ) (d : Database) → IsKept count weight d → some ≡ record_count (without_table m d) → more ≡ total_weight (without_table m d)
      → IsKept some more (without_table m d)
  kept-less count weight some more d kept counts weighs = record {
    rising = all-filtered IsRising stays d kept.rising;
    given = all-filtered IsGiven stays d kept.given;
    counted = counts;
    weighed = weighs;
  }

-- ---- fewer values

module _ (m f : ℕ) where
  abbrev pub left : Record → Record
  left r = record r { slots = without_slot f r }

  ids-left : (rs : List Record) → ids_by (map left rs) ≡ ids_by rs
  ids-left [] = refl
  ids-left (r ∷ rs) = ap (λ ids. r.id ∷ ids) (ids-left rs)

  given-left : (next : ℕ) (rs : List Record) → AllByRecursion (λ (r : Record). r.id < next) rs → AllByRecursion (λ (r : Record). r.id < next) (map left rs)
  given-left next [] all = tt
  given-left next (r ∷ rs) all = (all.0, given-left next rs all.1)

  weights-left : (rs : List Record) → sum_by record_weight (map left rs) ≤ sum_by record_weight rs
  weights-left [] = omega arith
  weights-left (r ∷ rs) =
      let slot_weight = λ (slot : Slot). weight_of slot.value in
      let stay = λ (slot : Slot). not (slot.field == f) in
      let parts = sum_by-filter_both stay (λ slot. not (stay slot)) (λ _. refl) slot_weight r.slots in
      let less : record_weight (left r) ≤ record_weight r = omega (arith, parts) in
      omega (arith, less, sum_by-cons record_weight (left r) (map left rs), sum_by-cons record_weight r rs, weights-left rs)

  abbrev table_left : Table → Table
  table_left = without_field_in m f

  pub left-of : (t : Table) → t.model ≡ m → record t { records = map left t.records } ≡ without_field_in m f t
  left-of t is = ap (λ (b : Bool). if b then record t { records = map left t.records } else t) (sym (eq-eqb t.model m is))

  pub other-of : (t : Table) → (t.model ≡ m → ⊥) → t ≡ without_field_in m f t
  other-of t is = ap (λ (b : Bool). if b then record t { records = map left t.records } else t) (sym (ne_eqb t.model m is))

  rising-left : (d : Database) → AreRising d → AreRising (without_field m f d)
  rising-left [] all = tt
  rising-left (t ∷ d) all = (
    elim (t.model == m) as (λ (b : Bool). IsRising (if b then record t { records = map left t.records } else t)) [
      | true ↦ subst IsStrictlyIncreasing (sym (ids-left t.records)) all.0
      | false ↦ all.0
    ],
    rising-left d all.1,
  )

  are-given-left : (d : Database) → AreGiven d → AreGiven (without_field m f d)
  are-given-left [] all = tt
  are-given-left (t ∷ d) all = (
    elim (t.model == m) as (λ (b : Bool). IsGiven (if b then record t { records = map left t.records } else t)) [
      | true ↦ given-left t.next t.records all.0
      | false ↦ all.0
    ],
    are-given-left d all.1,
  )

  size-left : (t : Table) → size (table_left t) ≡ size t
  size-left t =
      elim (t.model == m) as (λ (b : Bool). size (if b then record t { records = map left t.records } else t) ≡ size t) [
        | true ↦ length-map t.records left
        | false ↦ refl
      ]

  weight-left : (t : Table) → table_weight (table_left t) ≤ table_weight t
  weight-left t =
      elim (t.model == m) as (λ (b : Bool). table_weight (if b then record t { records = map left t.records } else t) ≤ table_weight t) [
        | true ↦ weights-left t.records
        | false ↦ omega arith
      ]

  count-left : (d : Database) → record_count (without_field m f d) ≡ record_count d
  count-left [] = refl
  count-left (t ∷ d) =
      omega (arith, sum_by-cons size (table_left t) (without_field m f d), sum_by-cons size t d, size-left t, count-left d)

  pub lighter : (d : Database) → total_weight (without_field m f d) ≤ total_weight d
  lighter [] = omega arith
  lighter (t ∷ d) =
      omega (arith, sum_by-cons table_weight (table_left t) (without_field m f d), sum_by-cons table_weight t d, weight-left t, lighter d)

  pub kept-left : (count weight less : ℕ) (d : Database) → IsKept count weight d → less ≡ total_weight (without_field m f d) → IsKept count less (without_field m f d)
  kept-left count weight less d kept weighs = record {
    rising = rising-left d kept.rising;
    given = are-given-left d kept.given;
    counted = kept.counted ∙ sym (count-left d);
    weighed = weighs;
  }

-- ---- more values

module _ (m f : ℕ) where
  ids-more : (vs : List Value) (rs : List Record) → ids_by (with_slots f vs rs) ≡ ids_by rs
  ids-more [] rs = refl
  ids-more (v ∷ vs) [] = refl
  ids-more (v ∷ vs) (r ∷ rs) = ap (λ ids. r.id ∷ ids) (ids-more vs rs)

  given-more : (next : ℕ) (vs : List Value) (rs : List Record) → AllByRecursion (λ (r : Record). r.id < next) rs → AllByRecursion (λ (r : Record). r.id < next) (with_slots f vs rs)
  given-more next [] rs all = all
  given-more next (v ∷ vs) [] all = tt
  given-more next (v ∷ vs) (r ∷ rs) all = (all.0, given-more next vs rs all.1)

  length-more : (vs : List Value) (rs : List Record) → length (with_slots f vs rs) ≡ length rs
  length-more [] rs = refl
  length-more (v ∷ vs) [] = refl
  length-more (v ∷ vs) (r ∷ rs) = omega (arith, length-more vs rs)

  weight-more : (vs : List Value) (rs : List Record) → length vs ≤ length rs → sum_by record_weight (with_slots f vs rs) ≡ sum_by record_weight rs + sum_by weight_of vs
  weight-more [] rs few = omega arith
  weight-more (v ∷ vs) [] few = absurd (omega arith)
  weight-more (v ∷ vs) (r ∷ rs) few =
      let slot : Slot = record { field = f; value = v } in
      let one : record_weight (with_slot f v r) ≡ record_weight r + weight_of v = sum_by_push (λ (s : Slot). weight_of s.value) r.slots slot in
      omega (
        arith,
        one,
        sum_by-cons record_weight (with_slot f v r) (with_slots f vs rs),
        sum_by-cons record_weight r rs,
        sum_by-cons weight_of v vs,
        weight-more vs rs (omega arith),
      )

  pub kept-more-values : (count weight : ℕ) (vs : List Value) (d : Database) (t : Table) → IsKept count weight d → table_of d m ≡ Some t → length vs ≤ length t.records
      → IsKept count (weight + sum_by weight_of vs) (with_new_field m f vs d)
  kept-more-values count weight vs d t kept found few =
      let same = tables-changed m (with_slots_in f vs) d in
      let counts = sum-changed size (model_is m) (with_slots_in f vs) d t found in
      let weighs = sum-changed table_weight (model_is m) (with_slots_in f vs) d t found in
      record {
        rising = subst AreRising (sym same)
            (all-changed IsRising (model_is m) (with_slots_in f vs) (λ u up. subst IsStrictlyIncreasing (sym (ids-more vs u.records)) up) d kept.rising);
        given = subst AreGiven (sym same)
            (all-changed IsGiven (model_is m) (with_slots_in f vs) (λ u given. given-more u.next vs u.records given) d kept.given);
        counted = subst (λ e. count ≡ record_count e) (sym same) (omega (arith, kept.counted, counts, length-more vs t.records));
        weighed = subst (λ e. weight + sum_by weight_of vs ≡ total_weight e) (sym same) (omega (arith, kept.weighed, weighs, weight-more vs t.records few));
      }
