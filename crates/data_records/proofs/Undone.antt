-- The last record of a model taken back.
use Rattle.std.proofs.Common.{◌≡◌, ℕ, suc, ◌<◌, ◌≤◌, ◌+◌, ◌-◌, Bool, true, false, List, [], ◌∷◌, ◌++◌, refl, ap, sym, ◌∙◌, subst, cond, arith, length, map}
use Rattle.std.specs.Prelude.{Option, Some, None, ◌==◌, slice_get, if◌then◌else◌}
use Rattle.std.specs.List.{sum_by, AllByRecursion}
use Rattle.std.specs.List.Sorted.{IsStrictlyIncreasing, IsStrictlySortedBy}
use Rattle.std.specs.Option.{is_some, option_map, option_map_or, option_to_list}
use Rattle.std.specs.Ordering.{nat_cmp}
use Rattle.std.specs.declared.cmp.Ordering.TheVariants.{Less}
use Rattle.std.proofs.lemmas.Bool.Decides.{nat_tests}
use Rattle.std.proofs.lemmas.List.{length_push}
use Rattle.std.proofs.lemmas.List.Sums.{sum_by-cons}
use Rattle.std.proofs.lemmas.Map.Keys.{IsStrictlyIncreasing-from_sorted, sorted_from_strictly_increasing}
use Rattle.data_meaning.specs.Database.{Record, Table, Database, table_of}
use Rattle.data_records.specs.Inserted.{change_table, with_record, with_row}
use Rattle.data_records.specs.Kept.{AreGiven, IsKept}
use Rattle.data_records.specs.Rising.{AreRising, ids_by}
use Rattle.data_records.specs.Room.{record_weight, record_count, total_weight}
use Rattle.data_records.specs.TakenBack.{without_last}
use Rattle.data_records.specs.Undone.{last_of, lowered, newest, Undoes, without_newest_in, without_newest}
use Rattle.data_records.proofs.Changes.{model_is, size, tables-changed}
use Rattle.data_records.proofs.Firsts.{all-changed, sum-changed}
use Rattle.data_records.proofs.Moves.{without-push}

-- ---- the last of a list

pub last-seen : {X Y : Type 0} (seen : X → Y) (xs : List X) → option_map seen (slice_get xs (length xs - 1)) ≡ last_of (map seen xs)
last-seen seen [] = refl
last-seen seen (x ∷ []) = refl
last-seen seen (x ∷ (y ∷ xs)) =
    let n : length (x ∷ (y ∷ xs)) - 1 ≡ suc (length (y ∷ xs) - 1) = omega arith in
    ap (λ k. option_map seen (slice_get (x ∷ (y ∷ xs)) k)) n ∙ last-seen seen (y ∷ xs)

pub last-mapped : {X Y : Type 0} (seen : X → Y) (xs : List X) (x : X) → Some (seen x) ≡ last_of (map seen (xs ++ x ∷ []))
last-mapped seen [] x = refl
last-mapped seen (y ∷ []) x = refl
last-mapped seen (y ∷ (z ∷ xs)) x = last-mapped seen (z ∷ xs) x

pub some-last : {A : Type 0} (o : Option A) (xs ys : List A) → is_some o ≡ true → ys ≡ xs ++ option_to_list o → 0 < length ys
some-last None xs ys some is = cc
some-last (Some x) xs ys some is = omega (arith, ap length is, length_push xs x)

sum-last : {A : Type 0} (f : A → ℕ) (xs : List A) (x : A) → last_of xs ≡ Some x → sum_by f (without_last xs) + f x ≡ sum_by f xs
sum-last f [] x is = cc
sum-last f (y ∷ []) x is = let same : y ≡ x = cc in subst (λ z. sum_by f [] + f z ≡ sum_by f (y ∷ [])) same (omega (arith, sum_by-cons f y []))
sum-last f (y ∷ (z ∷ xs)) x is = omega (arith, sum_by-cons f y (without_last (z ∷ xs)), sum_by-cons f y (z ∷ xs), sum-last f (z ∷ xs) x is)

length-last : {A : Type 0} (xs : List A) (x : A) → last_of xs ≡ Some x → length (without_last xs) + 1 ≡ length xs
length-last [] x is = cc
length-last (y ∷ []) x is = refl
length-last (y ∷ (z ∷ xs)) x is = omega (arith, length-last (z ∷ xs) x is)

-- ---- what is kept

ids-front : (P : ℕ → Type 0) (rs : List Record) → AllByRecursion P (ids_by rs) → AllByRecursion P (ids_by (without_last rs))
ids-front P [] all = tt
ids-front P (r ∷ []) all = tt
ids-front P (r ∷ (s ∷ rs)) all = (all.0, ids-front P (s ∷ rs) all.1)

sorted-front : (rs : List Record) → IsStrictlySortedBy nat_cmp (ids_by rs) → IsStrictlySortedBy nat_cmp (ids_by (without_last rs))
unfolding IsStrictlySortedBy
sorted-front [] up = tt
sorted-front (r ∷ []) up = tt
sorted-front (r ∷ (s ∷ rs)) up = (ids-front (λ i. nat_cmp r.id i ≡ Less) (s ∷ rs) up.0, sorted-front (s ∷ rs) up.1)

is-below : (a b n : ℕ) → nat_cmp a b ≡ Less → b < n → a < n - 1
is-below a b n less below = grind (arith, nat_tests)

given-front : (n : ℕ) (rs : List Record) → IsStrictlySortedBy nat_cmp (ids_by rs) → AllByRecursion (λ (r : Record). r.id < n) rs
    → AllByRecursion (λ (r : Record). r.id < lowered rs n) (without_last rs)
unfolding IsStrictlySortedBy
given-front n [] up all = tt
given-front n (r ∷ []) up all = tt
given-front n (r ∷ (s ∷ rs)) up all = (is-below r.id s.id n up.0.0 all.1.0, given-front n (s ∷ rs) up.1 all.1)

is-apart : (a b : ℕ) → nat_cmp a b ≡ Less → (a == b) ≡ false
is-apart a b less = grind (arith, nat_tests)

head-apart : (a : ℕ) (rs : List Record) (r : Record) → AllByRecursion (λ i. nat_cmp a i ≡ Less) (ids_by rs) → last_of rs ≡ Some r → (a == r.id) ≡ false
head-apart a [] r all is = cc
head-apart a (s ∷ []) r all is = let same : s ≡ r = cc in ap (λ (u : Record). a == u.id) (sym same) ∙ is-apart a s.id all.0
head-apart a (s ∷ (u ∷ rs)) r all is = head-apart a (u ∷ rs) r all.1 is

-- no other record has the id of the last one
pub last-differ : (rs : List Record) (r : Record) → IsStrictlySortedBy nat_cmp (ids_by rs) → last_of rs ≡ Some r → AllByRecursion (λ (u : Record). (u.id == r.id) ≡ false) (without_last rs)
unfolding IsStrictlySortedBy
last-differ [] r up is = tt
last-differ (s ∷ []) r up is = tt
last-differ (s ∷ (u ∷ rs)) r up is = (head-apart s.id (u ∷ rs) r up.0 is, last-differ (u ∷ rs) r up.1 is)

abbrev IsWell : Table → Type 0
IsWell t = IsStrictlyIncreasing (ids_by t.records) × AllByRecursion (λ (r : Record). r.id < t.next) t.records

well-front : (t : Table) → IsWell t → IsWell (without_newest_in t)
well-front t well =
    let up = sorted_from_strictly_increasing (ids_by t.records) well.0 in
    (IsStrictlyIncreasing-from_sorted (ids_by (without_last t.records)) (sorted-front t.records up), given-front t.next t.records up well.1)

all-well : (d : Database) → AreRising d → AreGiven d → AllByRecursion IsWell d
all-well [] up given = tt
all-well (t ∷ d) up given = ((up.0, given.0), all-well d up.1 given.1)

all-rising : (d : Database) → AllByRecursion IsWell d → AreRising d
all-rising [] all = tt
all-rising (t ∷ d) all = (all.0.0, all-rising d all.1)

all-given : (d : Database) → AllByRecursion IsWell d → AreGiven d
all-given [] all = tt
all-given (t ∷ d) all = (all.0.1, all-given d all.1)

newest-in : (d : Database) (m : ℕ) (r : Record) → newest d m ≡ Some r → (t : Table) × (table_of d m ≡ Some t) × (last_of t.records ≡ Some r)
newest-in d m r is = by-table (table_of d m) refl is
  where
    by-table : (o : Option Table) → table_of d m ≡ o → last_of (option_map_or (λ (t : Table). t.records) o []) ≡ Some r
        → (t : Table) × (table_of d m ≡ Some t) × (last_of t.records ≡ Some r)
    by-table None at h = cc
    by-table (Some t) at h = (t, at, h)

module _ (d : Database) (m : ℕ) (r : Record) (is : newest d m ≡ Some r) where
  weighs : total_weight (without_newest m d) + record_weight r ≡ total_weight d
  weighs =
      let at = newest-in d m r is in
      let rows = sum-last record_weight at.0.records r at.2 in
      let tables = sum-changed (λ (t : Table). sum_by record_weight t.records) (model_is m) without_newest_in d at.0 at.1 in
      omega (arith, rows, tables, ap total_weight (tables-changed m without_newest_in d))

  counts : record_count (without_newest m d) + 1 ≡ record_count d
  counts =
      let at = newest-in d m r is in
      let rows = length-last at.0.records r at.2 in
      let tables = sum-changed size (model_is m) without_newest_in d at.0 at.1 in
      omega (arith, rows, tables, ap record_count (tables-changed m without_newest_in d))

  pub newest-weighs : record_weight r ≤ total_weight d
  newest-weighs = omega (arith, weighs)

  pub newest-counts : 1 ≤ record_count d
  newest-counts = omega (arith, counts)

  pub kept-newest : (count weight w : ℕ) → IsKept count weight d → w ≡ total_weight d - record_weight r → IsKept (count - 1) w (without_newest m d)
  kept-newest count weight w kept left =
      let all = subst (AllByRecursion IsWell) (sym (tables-changed m without_newest_in d))
      (all-changed IsWell (model_is m) without_newest_in well-front d (all-well d kept.rising kept.given)) in
      record {
        rising = all-rising (without_newest m d) all;
        given = all-given (without_newest m d) all;
        counted = omega (arith, kept.counted, counts);
        weighed = omega (arith, left, weighs);
      }

-- ---- no record, no change

last-none : {A B : Type 0} (g : A → B) (xs : List A) → None ≡ option_map g (last_of xs) → xs ≡ []
last-none g [] is = refl
last-none g (x ∷ []) is = cc
last-none g (x ∷ (y ∷ xs)) is = let rest = last-none g (y ∷ xs) is in cc

table-still : (t : Table) → t.records ≡ [] → t ≡ without_newest_in t
table-still t none =
    subst (λ (rs : List Record). (record { model = t.model; next = t.next; records = rs }) ≡ without_newest_in (record { model = t.model; next = t.next; records = rs })) (sym none) refl

pub none-newest : {B : Type 0} (m : ℕ) (g : Record → B) (d : Database) → None ≡ option_map g (newest d m) → d ≡ without_newest m d
none-newest m g [] none = refl
none-newest m g (t ∷ d) none =
    elim (t.model == m) as (λ (b : Bool). None ≡ option_map g (last_of (option_map_or (λ (u : Table). u.records) (cond b (Some t) (table_of d m)) []))
    → t ∷ d ≡ (if b then without_newest_in t ∷ d else t ∷ without_newest m d)) [
      | true ↦ λ h. ap (λ u. u ∷ d) (table-still t (last-none g t.records h))
      | false ↦ λ h. ap (λ ts. t ∷ ts) (none-newest m g d h)
    ] none

pub lowered-some : (rs : List Record) (next : ℕ) → 0 < length rs → lowered rs next ≡ next - 1
lowered-some [] next some = absurd (omega arith)
lowered-some (r ∷ rs) next some = refl

-- ---- an insert taken back

lowered-push : (rs : List Record) (r : Record) (next : ℕ) → lowered (rs ++ r ∷ []) (next + 1) ≡ next
lowered-push [] r next = omega arith
lowered-push (s ∷ rs) r next = omega arith

table-back : (r : Record) (t : Table) → without_newest_in (with_record r t) ≡ t
table-back r t =
    ap (λ n. record { model = t.model; next = n; records = without_last (t.records ++ r ∷ []) }) (lowered-push t.records r t.next)
    ∙ ap (λ rs. record { model = t.model; next = t.next; records = rs }) (without-push t.records r)

change-back : (m : ℕ) (r : Record) (d : Database) → without_newest m (change_table m (with_record r) d) ≡ d
change-back m r [] = refl
change-back m r (t ∷ d) =
    elim (t.model == m) as (λ (b : Bool). (t.model == m) ≡ b → without_newest m (if b then with_record r t ∷ d else t ∷ change_table m (with_record r) d) ≡ t ∷ d) [
      | true ↦ λ here.
          ap (λ c. if c then without_newest_in (with_record r t) ∷ d else with_record r t ∷ without_newest m d) here ∙ ap (λ u. u ∷ d) (table-back r t)
      | false ↦ λ other.
          ap (λ c. if c then without_newest_in t ∷ change_table m (with_record r) d else t ∷ without_newest m (change_table m (with_record r) d)) other
          ∙ ap (λ ts. t ∷ ts) (change-back m r d)
    ] refl

pub undone : (m : ℕ) (before after : Database) → after ≡ without_newest m before → Undoes m before after
undone m before after is d info row at from =
    is ∙ ap (without_newest m) from
    ∙ subst (λ n. without_newest n (with_row info row d) ≡ d) at (change-back info.number _ d)
