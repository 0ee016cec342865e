-- Look-up in the plain data of tables.
use Rattle.std.proofs.Common.{◌≡◌, ℕ, Bool, true, false, ◌||◌, List, [], ◌∷◌, refl, ap, sym, subst, cond, arith, length, map}
use Rattle.std.specs.Prelude.{Option, Some, None, ◌==◌, is_some}
use Rattle.std.specs.List.{find, list_any, sum_by, AllByRecursion}
use Rattle.std.specs.List.Sorted.{IsStrictlyIncreasing}
use Rattle.std.specs.Option.{option_map, option_map_or}
use Rattle.std.proofs.lemmas.List.Sums.{sum_by-cons}
use Rattle.type_schema.specs.Schema.{ModelInfo}
use Rattle.data_meaning.specs.Database.{Record, Table, records_of}
use Rattle.data_records.specs.declared.record.Record as code_record
use Rattle.data_records.specs.declared.table.Table as code_table
use Rattle.data_records.specs.Views.{record_data, table_data}
use Rattle.data_records.specs.Inserted.{empty_table, next_of}
use Rattle.data_records.specs.Kept.{IsKept}
use Rattle.data_records.specs.Room.{record_weight}
use Rattle.data_records.specs.Rising.{AreRising}
use Rattle.data_records.proofs.Searches.{find-seen}

pub records-seen : (ts : List code_table.Table) (m : ℕ) (o : Option code_table.Table) → o ≡ find (λ t. t.model == m) ts
    → records_of (map table_data ts) m ≡ option_map_or (λ t. map record_data t.records.items) o []
records-seen ts m o e = rw (find-seen (λ t. t.model == m) table_data ts, ← e) (go o)
  where
    go : (o : Option code_table.Table) → option_map_or (λ t. t.records) (option_map table_data o) [] ≡ option_map_or (λ t. map record_data t.records.items) o []
    go None = refl
    go (Some t) = refl

find-each : {A B : Type 0} (P : B → Type 0) (p : A → Bool) (f : A → B) (xs : List A) (x : A) → AllByRecursion P (map f xs) → find p xs ≡ Some x → P (f x)
find-each P p f [] x all e = cc
find-each {A} P p f (y ∷ xs) x all e =
    elim (p y) as (λ (b : Bool). cond b (Some y) (find p xs) ≡ Some x → P (f x)) [
      | true ↦ λ h. let same : y ≡ x = cc in subst (λ z. P (f z)) same all.0
      | false ↦ λ h. find-each P p f xs x all.1 h
    ] e

pub ids-seen : (rs : List code_record.Record) → map (λ (r : Record). r.id) (map record_data rs) ≡ map (λ r. r.id) rs
ids-seen [] = refl
ids-seen (r ∷ rs) = ap (λ ids. r.id ∷ ids) (ids-seen rs)

pub rising-in : (ts : List code_table.Table) (m : ℕ) (t : code_table.Table) → AreRising (map table_data ts) → Some t ≡ find (λ t. t.model == m) ts
    → IsStrictlyIncreasing (map (λ r. r.id) t.records.items)
rising-in ts m t all e =
    subst IsStrictlyIncreasing (ids-seen t.records.items)
    (find-each (λ u. IsStrictlyIncreasing (map (λ (r : Record). r.id) u.records)) (λ t. t.model == m) table_data ts t all (sym e))

-- whether an element of a list is found
pub any-found : (id : ℕ) (rs : List Record) → list_any (λ i. i == id) (map (λ (r : Record). r.id) rs) ≡ is_some (find (λ (r : Record). r.id == id) rs)
any-found id [] = refl
any-found id (r ∷ rs) =
    elim (r.id == id) as (λ (b : Bool). (b || list_any (λ i. i == id) (map (λ (u : Record). u.id) rs)) ≡ is_some (cond b (Some r) (find (λ (u : Record). u.id == id) rs))) [
      | true ↦ refl
      | false ↦ any-found id rs
    ]

pub is-some-seen : {A B : Type 0} (f : A → B) (o : Option A) → is_some (option_map f o) ≡ is_some o
is-some-seen f None = refl
is-some-seen f (Some x) = refl

pub next-seen : (ts : List code_table.Table) (m : ℕ) (o : Option code_table.Table) → o ≡ find (λ t. t.model == m) ts
    → next_of (map table_data ts) m ≡ option_map_or (λ t. t.next) o 1
next-seen ts m o e = rw (find-seen (λ t. t.model == m) table_data ts, ← e) (go o)
  where
    go : (o : Option code_table.Table) → option_map_or (λ t. t.next) (option_map table_data o) 1 ≡ option_map_or (λ t. t.next) o 1
    go None = refl
    go (Some t) = refl

-- ---- tables without records

pub empty-kept : (infos : List ModelInfo) → IsKept 0 0 (map empty_table infos)
empty-kept [] = record { rising = tt; given = tt; counted = refl; weighed = refl }
empty-kept (info ∷ infos) =
    let rest = empty-kept infos in
    record {
      rising = ((λ k below. absurd (omega arith)), rest.rising);
      given = (tt, rest.given);
      counted = omega (arith, rest.counted, sum_by-cons (λ (t : Table). length t.records) (empty_table info) (map empty_table infos));
      weighed = omega (arith, rest.weighed, sum_by-cons (λ (t : Table). sum_by record_weight t.records) (empty_table info) (map empty_table infos));
    }
