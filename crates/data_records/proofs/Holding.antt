-- The ids of the records that hold an id, found among those that are noted.
use Rattle.std.proofs.Common.{◌≡◌, ℕ, ◌<◌, Bool, true, false, ◌||◌, List, [], ◌∷◌, refl, ap, sym, ◌∙◌, subst, cond, arith, map}
use Rattle.std.specs.Prelude.{Option, None, Some, ◌==◌, is_some, filter}
use Rattle.std.specs.List.{AllByRecursion, find, list_any}
use Rattle.std.specs.List.Sorted.{IsStrictlyIncreasing, IsStrictlySortedBy}
use Rattle.std.specs.Option.{option_map, option_map_or}
use Rattle.std.specs.Ordering.{nat_cmp}
use Rattle.std.specs.declared.cmp.Ordering.TheVariants.{Less}
use Rattle.std.proofs.lemmas.Bool.{eq-eqb, eqb-true}
use Rattle.std.proofs.lemmas.Bool.Decides.{nat_tests}
use Rattle.std.proofs.lemmas.List.Kept.{IsStrictlySortedBy-filter}
use Rattle.std.proofs.lemmas.Map.Keys.{sorted_from_strictly_increasing}
use Rattle.data_meaning.specs.Values.{Value, Nothing}
use Rattle.data_meaning.specs.Database.{Slot, Record, Table, Database, table_of, records_of, ids_of, field_at}
use Rattle.data_meaning.specs.Meaning.{are_equal}
use Rattle.data_records.specs.declared.record.Record as code_record
use Rattle.data_records.specs.Removed.{held}
use Rattle.data_records.specs.Views.{record_data}
use Rattle.data_records.specs.Rising.{AreRising, ids_by}
use Rattle.data_records.proofs.Changes.{field_is, id_is, model_is}
use Rattle.data_records.proofs.Firsts.{found-among}
use Rattle.data_records.proofs.Searches.{find-seen}
use Rattle.data_records.proofs.Tables.{any-found, ids-seen}

-- ---- rising lists with the same elements

abbrev pub is_in : List ℕ → ℕ → Bool
is_in xs i = list_any (λ j. j == i) xs

is-less : (a b : ℕ) → nat_cmp a b ≡ Less → a < b
is-less a b less = grind (arith, nat_tests)

above : (x : ℕ) (ys : List ℕ) → AllByRecursion (λ y. nat_cmp x y ≡ Less) ys → (i : ℕ) → is_in ys i ≡ true → x < i
above x [] all i there = cc
above x (y ∷ ys) all i there =
    elim (y == i) as (λ (b : Bool). (y == i) ≡ b → (b || is_in ys i) ≡ true → x < i) [
      | true ↦ λ same h. subst (λ k. x < k) (eqb-true y i same) (is-less x y all.0)
      | false ↦ λ other h. above x ys all.1 i h
    ] refl there

-- the heads are one, where each is in the other list
one-head : (x y : ℕ) (xs ys : List ℕ) → AllByRecursion (λ z. nat_cmp x z ≡ Less) xs → AllByRecursion (λ z. nat_cmp y z ≡ Less) ys
    → is_in (y ∷ ys) x ≡ true → is_in (x ∷ xs) y ≡ true → x ≡ y
one-head x y xs ys up up' there there' =
    elim (y == x) as (λ (b : Bool). (y == x) ≡ b → (b || is_in ys x) ≡ true → x ≡ y) [
      | true ↦ λ same h. sym (eqb-true y x same)
      | false ↦ λ other h.
          elim (x == y) as (λ (b : Bool). (x == y) ≡ b → (b || is_in xs y) ≡ true → x ≡ y) [
            | true ↦ λ same k. eqb-true x y same
            | false ↦ λ other' k. let l : y < x = above y ys up' x h in let g : x < y = above x xs up y k in absurd (omega arith)
          ] refl there'
    ] refl there

tail-in : (x y : ℕ) (xs ys : List ℕ) → x ≡ y → AllByRecursion (λ z. nat_cmp x z ≡ Less) xs → ((i : ℕ) → is_in (x ∷ xs) i ≡ true → is_in (y ∷ ys) i ≡ true)
    → (i : ℕ) → is_in xs i ≡ true → is_in ys i ≡ true
tail-in x y xs ys same up more i there =
    elim (y == i) as (λ (b : Bool). (y == i) ≡ b → (b || is_in ys i) ≡ true → is_in ys i ≡ true) [
      | true ↦ λ is h. let here : y ≡ i = eqb-true y i is in let l : x < i = above x xs up i there in absurd (omega arith)
      | false ↦ λ is h. h
    ] refl (more i (or-right (x == i) (is_in xs i) there))
  where
    or-right : (a b : Bool) → b ≡ true → (a || b) ≡ true
    or-right true b h = refl
    or-right false b h = h

first-in : (x : ℕ) (xs : List ℕ) → is_in (x ∷ xs) x ≡ true
first-in x xs = ap (λ b. b || is_in xs x) (eq-eqb x x refl)

same-lists : (xs ys : List ℕ) → IsStrictlySortedBy nat_cmp xs → IsStrictlySortedBy nat_cmp ys → ((i : ℕ) → is_in xs i ≡ true → is_in ys i ≡ true)
    → ((i : ℕ) → is_in ys i ≡ true → is_in xs i ≡ true) → xs ≡ ys
unfolding IsStrictlySortedBy
same-lists [] [] up up' more less = refl
same-lists [] (y ∷ ys) up up' more less = let h = less y (first-in y ys) in cc
same-lists (x ∷ xs) [] up up' more less = let h = more x (first-in x xs) in cc
same-lists (x ∷ xs) (y ∷ ys) up up' more less =
    let same = one-head x y xs ys up.0 up'.0 (more x (first-in x xs)) (less y (first-in y ys)) in
    let rest = same-lists xs ys up.1 up'.1 (tail-in x y xs ys same up.0 more) (tail-in y x ys xs (sym same) up'.0 less) in
    cc

-- ---- what a filter keeps

kept-passes : (p : ℕ → Bool) (i : ℕ) (xs : List ℕ) → is_in (filter p xs) i ≡ true → (p i ≡ true) × (is_in xs i ≡ true)
kept-passes p i [] there = cc
kept-passes p i (x ∷ xs) there =
    elim (p x) as (λ (b : Bool). p x ≡ b → is_in (cond b (x ∷ filter p xs) (filter p xs)) i ≡ true → (p i ≡ true) × ((x == i) || is_in xs i) ≡ true) [
      | true ↦ λ passes h.
          elim (x == i) as (λ (b : Bool). (x == i) ≡ b → (b || is_in (filter p xs) i) ≡ true → (p i ≡ true) × ((b || is_in xs i) ≡ true)) [
            | true ↦ λ same k. (subst (λ n. p n ≡ true) (eqb-true x i same) passes, refl)
            | false ↦ λ other k. kept-passes p i xs k
          ] refl h
      | false ↦ λ fails h. let rest = kept-passes p i xs h in (rest.0, or-right (x == i) (is_in xs i) rest.1)
    ] refl there
  where
    or-right : (a b : Bool) → b ≡ true → (a || b) ≡ true
    or-right true b h = refl
    or-right false b h = h

passes-kept : (p : ℕ → Bool) (i : ℕ) (xs : List ℕ) → p i ≡ true → is_in xs i ≡ true → is_in (filter p xs) i ≡ true
passes-kept p i [] passes there = there
passes-kept p i (x ∷ xs) passes there =
    elim (x == i) as (λ (b : Bool). (x == i) ≡ b → (b || is_in xs i) ≡ true → is_in (cond (p x) (x ∷ filter p xs) (filter p xs)) i ≡ true) [
      | true ↦ λ same h.
          ap (λ b. is_in (cond b (x ∷ filter p xs) (filter p xs)) i) (ap p (eqb-true x i same) ∙ passes) ∙ ap (λ b. b || is_in (filter p xs) i) same
      | false ↦ λ other h.
          elim (p x) as (λ (b : Bool). is_in (cond b (x ∷ filter p xs) (filter p xs)) i ≡ true) [
            | true ↦ ap (λ b. b || is_in (filter p xs) i) other ∙ passes-kept p i xs passes h
            | false ↦ passes-kept p i xs passes h
          ]
    ] refl there

-- ---- among ids where all that pass are

pub found-within : (p : ℕ → Bool) (some all : List ℕ) → IsStrictlyIncreasing some → IsStrictlyIncreasing all → ((i : ℕ) → p i ≡ true → is_in some i ≡ true)
    → ((i : ℕ) → p i ≡ true → is_in all i ≡ true) → filter p some ≡ filter p all
found-within p some all up up' in_some in_all =
    same-lists (filter p some) (filter p all)
    (IsStrictlySortedBy-filter nat_cmp p some (sorted_from_strictly_increasing some up)) (IsStrictlySortedBy-filter nat_cmp p all (sorted_from_strictly_increasing all up'))
    (λ i there. let passes = (kept-passes p i some there).0 in passes-kept p i all passes (in_all i passes))
    (λ i there. let passes = (kept-passes p i all there).0 in passes-kept p i some passes (in_some i passes))

pub ids-rise : (d : Database) (m : ℕ) → AreRising d → IsStrictlyIncreasing (ids_of d m)
ids-rise d m up = by (table_of d m) refl
  where
    by : (o : Option Table) → table_of d m ≡ o → IsStrictlyIncreasing (ids_by (option_map_or (λ (t : Table). t.records) o []))
    by None is = λ k below. absurd (omega arith)
    by (Some t) is = found-among (λ (u : Table). IsStrictlyIncreasing (ids_by u.records)) (model_is m) d t up is

-- a record whose field is equal to something is there
pub equal-there : (d : Database) (m f : ℕ) (v : Value) (i : ℕ) → are_equal (field_at d m i f) v ≡ true → is_in (ids_of d m) i ≡ true
equal-there d m f v i equal = any-found i (records_of d m) ∙ by (find (id_is i) (records_of d m)) equal
  where
    by : (o : Option Record)
        → are_equal (option_map_or (λ (slot : Slot). slot.value) (find (field_is f) (option_map_or (λ (r : Record). r.slots) o [])) Nothing) v ≡ true → is_some o ≡ true
    by None h = cc
    by (Some r) h = refl

-- ---- records where they stand

abbrev code_id_is : ℕ → code_record.Record → Bool
code_id_is id r = r.id == id

abbrev pub ids_where : List code_record.Record → List ℕ
ids_where rs = map (λ (r : code_record.Record). r.id) rs

differs : (a b : ℕ) → nat_cmp a b ≡ Less → (a == b) ≡ false
differs a b less = grind (arith, nat_tests)

found-later : (r : code_record.Record) (all rs : List code_record.Record) → AllByRecursion (λ id. nat_cmp r.id id ≡ Less) (ids_where rs)
    → AllByRecursion (λ (u : code_record.Record). find (code_id_is u.id) all ≡ Some u) rs
    → AllByRecursion (λ (u : code_record.Record). find (code_id_is u.id) (r ∷ all) ≡ Some u) rs
found-later r all [] less found = tt
found-later r all (u ∷ rs) less found = (
  ap (λ b. cond b (Some r) (find (code_id_is u.id) all)) (differs r.id u.id less.0) ∙ found.0,
  found-later r all rs less.1 found.1,
)

-- each is the first that has its id
pub each-found : (rs : List code_record.Record) → IsStrictlySortedBy nat_cmp (ids_where rs) → AllByRecursion (λ (r : code_record.Record). find (code_id_is r.id) rs ≡ Some r) rs
unfolding IsStrictlySortedBy
each-found [] up = tt
each-found (r ∷ rs) up = (
  ap (λ b. cond b (Some r) (find (code_id_is r.id) rs)) (eq-eqb r.id r.id refl),
  found-later r rs rs up.0 (each-found rs up.1),
)

-- the ids of those that pass one test are those of all ids that pass another
pub filtered-ids : (p : code_record.Record → Bool) (q : ℕ → Bool) (rs : List code_record.Record) → AllByRecursion (λ (r : code_record.Record). q r.id ≡ p r) rs
    → ids_where (filter p rs) ≡ filter q (ids_where rs)
filtered-ids p q [] same = refl
filtered-ids p q (r ∷ rs) same =
    let later = filtered-ids p q rs same.1 in
    let these = filter p rs in
    let those = filter q (ids_where rs) in
    elim (p r) as (λ (b : Bool). ids_where (cond b (r ∷ these) these) ≡ cond b (r.id ∷ those) those) [
      | true ↦ ap (λ ns. r.id ∷ ns) later
      | false ↦ later
    ]
    ∙ ap (λ b. cond b (r.id ∷ those) those) (sym same.0)

module _ (d : Database) (m f : ℕ) (v : Value) where
  abbrev is_equal_by : ℕ → Bool
  is_equal_by i = are_equal (field_at d m i f) v

  abbrev is_equal_in : code_record.Record → Bool
  is_equal_in r = are_equal (held (record_data r) f) v

  values-agree : (all rs : List code_record.Record) → map record_data all ≡ records_of d m → AllByRecursion (λ (r : code_record.Record). find (code_id_is r.id) all ≡ Some r) rs
      → AllByRecursion (λ (r : code_record.Record). is_equal_by r.id ≡ is_equal_in r) rs
  values-agree all [] same found = tt
  values-agree all (r ∷ rs) same found =
      let here : find (id_is r.id) (records_of d m) ≡ Some (record_data r)
      = ap (find (id_is r.id)) (sym same) ∙ find-seen (id_is r.id) record_data all ∙ ap (option_map record_data) found.0 in
      (ap (λ o. are_equal (option_map_or (λ (slot : Slot). slot.value) (find (field_is f) (option_map_or (λ (u : Record). u.slots) o [])) Nothing) v) here, values-agree all rs same found.1)

  pub equal-ids : (rs : List code_record.Record) → map record_data rs ≡ records_of d m → IsStrictlyIncreasing (ids_where rs)
      → ids_where (filter is_equal_in rs) ≡ filter is_equal_by (ids_of d m)
  equal-ids rs same up =
      let ids : ids_where rs ≡ ids_of d m = sym (ids-seen rs) ∙ ap (map (λ (r : Record). r.id)) same in
      filtered-ids is_equal_in is_equal_by rs (values-agree rs rs same (each-found rs (sorted_from_strictly_increasing (ids_where rs) up))) ∙ ap (filter is_equal_by) ids
