-- Tables that were looked at are a database over the schema.
use Rattle.std.proofs.Common.{◌≡◌, ℕ, ◌+◌, ◌<◌, ◌≤◌, List, [], ◌∷◌, map, refl, sym, ◌∙◌, ap, subst}
use Rattle.std.specs.Prelude.{◌↔◌, Option, Some, ◌==◌, nat_eq}
use Rattle.std.specs.List.{AllByRecursion, IsDistinct}
use Rattle.std.specs.Option.{option_map_or}
use Rattle.type_schema.specs.Schema.{ModelInfo, Schema}
use Rattle.type_schema.specs.Proper.{model_numbers}
use Rattle.data_meaning.specs.Values.{last_id}
use Rattle.data_meaning.specs.Database.{Record, Table, Database, table_of, IsRecordIn, IsTableOf, HasTable, IsDatabase}
use Rattle.data_records.specs.Rising.{AreRising}
use Rattle.data_records.specs.Kept.{AreGiven}
use Rattle.data_back.specs.Printed.{IsStandard}
use Rattle.data_back.specs.Standard.{IsKeptTable, IsRecordOf, IsWhole}
use Rattle.data_back.proofs.TablesRead.{some-one, AreFound, found-all}

all-of : {A : Type 0} (P Q : A → Type 0) → ((x : A) → P x → Q x) → (xs : List A) → AllByRecursion P xs → AllByRecursion Q xs
all-of P Q f [] all = tt
all-of P Q f (x ∷ xs) all = (f x all.0, all-of P Q f xs all.1)

all-both : {A : Type 0} (P Q R : A → Type 0) → ((x : A) → P x → Q x → R x) → (xs : List A) → AllByRecursion P xs → AllByRecursion Q xs → AllByRecursion R xs
all-both P Q R f [] p q = tt
all-both P Q R f (x ∷ xs) p q = (f x p.0 q.0, all-both P Q R f xs p.1 q.1)

-- of the elements and of what they stand for
pub all-seen-as : {A B : Type 0} (f : A → B) (P : B → Type 0) (xs : List A) → AllByRecursion (λ x. P (f x)) xs ↔ AllByRecursion P (map f xs)
all-seen-as f P [] = (λ _. tt, λ _. tt)
all-seen-as f P (x ∷ xs) =
    let later = all-seen-as f P xs in (λ all. (all.0, later.0 all.1), λ all. (all.0, later.1 all.1))

pub rising : (ts : List Table) → AllByRecursion IsKeptTable ts → AreRising ts
rising [] all = tt
rising (t ∷ ts) all = (all.0.rising, rising ts all.1)

pub given : (ts : List Table) → AllByRecursion IsKeptTable ts → AreGiven ts
given [] all = tt
given (t ∷ ts) all = (all.0.given, given ts all.1)

module _ (d : Database) where
  -- the table of the model that is found
  one-table : (m : ModelInfo) (t : Table) → table_of d m.number ≡ Some t → IsKeptTable t → IsWhole d m → IsTableOf d m t
  one-table m t found kept whole = record {
    first = subst (λ (o : Option Table). 1 ≤ option_map_or (λ (u : Table). u.next) o 1) found whole.first;
    last = subst (λ (o : Option Table). option_map_or (λ (u : Table). u.next) o 1 ≤ last_id + 1) found whole.last;
    rising = kept.rising;
    records =
        all-both (λ (r : Record). r.id < t.next) (IsRecordOf d m.fields) (IsRecordIn d m t.next) (λ r g w. record { first = w.first; given = g; slots = w.slots }) t.records kept.given
        (subst (λ (o : Option Table). AllByRecursion (IsRecordOf d m.fields) (option_map_or (λ (u : Table). u.records) o [])) found whole.records);
  }

  all-tables : (models : List ModelInfo) (ts : List Table) → AreFound d models ts → AllByRecursion IsKeptTable ts → AllByRecursion (IsWhole d) models → AllByRecursion (HasTable d) models
  all-tables [] [] found kept whole = tt
  all-tables [] (t ∷ ts) found kept whole = absurd found
  all-tables (m ∷ models) [] found kept whole = absurd found
  all-tables (m ∷ models) (t ∷ ts) found kept whole =
      ((t, found.0.1, one-table m t found.0.1 kept.0 whole.0), all-tables models ts found.1 kept.1 whole.1)

  one-kept : (m : ModelInfo) (t : Table) → IsTableOf d m t → IsKeptTable t
  one-kept m t is = record { rising = is.rising; given = all-of (IsRecordIn d m t.next) (λ (r : Record). r.id < t.next) (λ r i. i.given) t.records is.records }

  pub all-kept : (models : List ModelInfo) (ts : List Table) → AreFound d models ts → AllByRecursion (HasTable d) models → AllByRecursion IsKeptTable ts
  all-kept [] [] found has = tt
  all-kept [] (t ∷ ts) found has = absurd found
  all-kept (m ∷ models) [] found has = absurd found
  all-kept (m ∷ models) (t ∷ ts) found has =
      let one : has.0.0 ≡ t = some-one (sym has.0.1 ∙ found.0.1) in
      (one-kept m t (subst (IsTableOf d m) one has.0.2), all-kept models ts found.1 has.1)

  one-whole : (m : ModelInfo) → HasTable d m → IsWhole d m
  one-whole m has =
      let t = has.0 in
      let found = sym has.1 in
      record {
        first = subst (λ (o : Option Table). 1 ≤ option_map_or (λ (u : Table). u.next) o 1) found has.2.first;
        last = subst (λ (o : Option Table). option_map_or (λ (u : Table). u.next) o 1 ≤ last_id + 1) found has.2.last;
        records =
            subst (λ (o : Option Table). AllByRecursion (IsRecordOf d m.fields) (option_map_or (λ (u : Table). u.records) o [])) found
            (all-of (IsRecordIn d m t.next) (IsRecordOf d m.fields) (λ r i. record { first = i.first; slots = i.slots }) t.records has.2.records);
      }

  pub all-whole : (models : List ModelInfo) → AllByRecursion (HasTable d) models → AllByRecursion (IsWhole d) models
  all-whole models has = all-of (HasTable d) (IsWhole d) (λ m h. one-whole m h) models has

module _ (s : Schema) (d : Database) (models : IsDistinct nat_eq (model_numbers s.models)) (order : map (λ (t : Table). t.model) d ≡ model_numbers s.models) where
  pub standard : AllByRecursion IsKeptTable d → AllByRecursion (IsWhole d) s.models → IsStandard s d
  standard kept whole = record {
    database = record { apart = subst (IsDistinct nat_eq) (sym order) models; tables = all-tables d s.models d (found-all s.models d models order) kept whole };
    order = order;
  }

  pub standard-kept : IsStandard s d → AllByRecursion IsKeptTable d
  standard-kept is = all-kept d s.models d (found-all s.models d models order) is.database.tables

  pub standard-whole : IsStandard s d → AllByRecursion (IsWhole d) s.models
  standard-whole is = all-whole d s.models is.database.tables
