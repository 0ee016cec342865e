-- The printed text of a database is read as that database.
use Rattle.std.proofs.Common.{◌≡◌, ℕ, List, [], ◌∷◌, ◌++◌, map, sym, ◌∙◌, ap, subst}
use Rattle.std.specs.Prelude.{Option, None, Some, nat_eq, Bool}
use Rattle.std.specs.List.{AllByRecursion, AllZip, IsDistinct, find}
use Rattle.std.specs.List.Sorted.{IsPermutation, IsStrictlyIncreasing}
use Rattle.std.specs.Option.{option_map_or}
use Rattle.std.specs.Str.{bytes_eq}
use Rattle.std.proofs.lemmas.List.Sorted.{IsPermutation-refl}
use Rattle.type_schema.specs.Schema.{FieldInfo, ModelInfo, Schema, StaticInfo}
use Rattle.type_schema.specs.Proper.{AreProperFields, IsProper}
use Rattle.data_meaning.specs.Database.{Record, Table, Database, IsDatabase, records_of, table_of, IsInOrder}
use Rattle.data_tree.specs.declared.tables.TableLit.{TableLit}
use Rattle.data_judge.specs.Faults.{model_named, rule_fault, table_fault}
use Rattle.data_judge.specs.Judged.{Reads}
use Rattle.data_judge.specs.Meaning.{AreHeld, Holds, next_for, record_of, records_for, table_for}
use Rattle.data_judge.specs.References.{lost, table_lost}
use Rattle.data_read.specs.Spelled.{AreTableLitsOf, IsTableLitOf}
use Rattle.data_read.proofs.First.{none-behind, none-given}
use Rattle.data_read.proofs.Lists.{IsNew, finds, zip-from, zip-maps, zip-of-maps, zip-right, zip-with}
use Rattle.data_read.proofs.Looked.{IsKept, kept-models, next-of, number-same}
use Rattle.data_read.proofs.RowsJudged.{bytes-same}
use Rattle.data_read.proofs.TablesJudged.{IsTableFine, table-fine}

distinct-back : {K : Type 0} (e : K → K → Bool) (xs ys : List K) → IsDistinct e (xs ++ ys) → IsDistinct e ys
unfolding IsDistinct
distinct-back e [] ys apart = apart
distinct-back e (x ∷ xs) ys apart = distinct-back e xs ys apart.1

abbrev model-name : ModelInfo → List ℕ
model-name m = m.name

abbrev table-name : TableLit → List ℕ
table-name t = t.name.name

module _ (s : Schema) (d : Database) (ts : List TableLit) where
  -- a model and the table that is written for it: each is found by its name
  record IsPaired (m : ModelInfo) (t : TableLit) : Type 0 where
    fine : IsTableFine d m t
    named : model_named s.models t.name.name ≡ Some m
    found : table_for ts m ≡ Some t

  record IsKnown (m : ModelInfo) : Type 0 where
    kept : IsKept d m (table_of d m.number)
    names : IsDistinct bytes_eq (map (λ (f : FieldInfo). f.name) m.fields)
    named : model_named s.models m.name ≡ Some m

  abbrev IsPlaced : TableLit → Type 0
  IsPlaced t = find (λ (u : TableLit). bytes_eq u.name.name t.name.name) ts ≡ Some t

  pair : (m : ModelInfo) (t : TableLit) → IsTableLitOf d m t × IsKnown m × IsPlaced t → IsPaired m t
  pair m t (is, known, placed) = record {
    fine = table-fine d m t known.names known.kept is;
    named = ap (model_named s.models) is.name ∙ known.named;
    found = subst (λ (name : List ℕ). find (λ (u : TableLit). bytes_eq u.name.name name) ts ≡ Some t) is.name placed;
  }

  known-all : (next : ℕ) (ms : List ModelInfo) → AllByRecursion (AreProperFields next) ms → AllByRecursion (λ (m : ModelInfo). IsKept d m (table_of d m.number)) ms
      → AllByRecursion (λ (m : ModelInfo). find (λ (n : ModelInfo). bytes_eq n.name m.name) s.models ≡ Some m) ms → AllByRecursion IsKnown ms
  known-all next [] proper kept named = tt
  known-all next (m ∷ ms) proper kept named =
      (record { kept = kept.0; names = proper.0.names; named = named.0 }, known-all next ms proper.1 kept.1 named.1)

  module _ (proper : IsProper s) (is : IsDatabase s d) (order : IsInOrder s d) (zip : AreTableLitsOf s d ts) where
    kept : AllByRecursion (λ (m : ModelInfo). IsKept d m (table_of d m.number)) s.models
    kept = kept-models d s.next_field s.models proper.fields is.tables

    names : IsDistinct bytes_eq (map model-name s.models)
    names = distinct-back bytes_eq (map (λ (n : StaticInfo). n.name) s.statics) (map model-name s.models) proper.names

    table-names : map table-name ts ≡ map model-name s.models
    table-names = zip-maps (IsTableLitOf d) model-name table-name (λ m t is. is.name) s.models ts zip

    apart : IsDistinct bytes_eq (map table-name ts)
    apart = subst (IsDistinct bytes_eq) (sym table-names) names

    pairs : AllZip IsPaired s.models ts
    pairs =
        zip-from (λ m t. IsTableLitOf d m t × IsKnown m × IsPlaced t) IsPaired pair s.models ts
        (zip-with (IsTableLitOf d) IsKnown IsPlaced s.models ts zip (known-all s.next_field s.models proper.fields kept (finds bytes_eq model-name bytes-same s.models names))
        (finds bytes_eq table-name bytes-same ts apart))

    -- ---- nothing is wrong

    table-calm : (m : ModelInfo) (t : TableLit) → IsPaired m t → (before : List TableLit) → IsNew bytes_eq table-name before t → table_fault s.models before t ≡ None
    table-calm m t p before new = rw (p.named, new) p.fine.sound

    sound : rule_fault s ts ≡ None
    sound =
        none-behind bytes_eq table-name (table_fault s.models) ts
        (zip-right IsPaired (λ t. (before : List TableLit) → IsNew bytes_eq table-name before t → table_fault s.models before t ≡ None) table-calm s.models ts pairs) apart

    table-kept : (m : ModelInfo) (t : TableLit) → IsPaired m t → table_lost d s.models t ≡ None
    table-kept m t p = rw p.named p.fine.kept

    none-lost : lost s d ts ≡ None
    none-lost = none-given (table_lost d s.models) ts (zip-right IsPaired (λ t. table_lost d s.models t ≡ None) table-kept s.models ts pairs)

    -- ---- the database is what is written

    record IsWritten (m : ModelInfo) : Type 0 where
      next : next_for ts m ≡ next-of d (table_of d m.number)
      records : records_for ts m ≡ records_of d m.number
      rising : IsStrictlyIncreasing (map (λ (r : Record). r.id) (records_of d m.number))

    written : (m : ModelInfo) (t : TableLit) → IsPaired m t → IsKept d m (table_of d m.number) → IsWritten m
    written m t p k = record {
      next = ap (λ (o : Option TableLit). option_map_or (λ (u : TableLit). u.next.number) o 1) p.found ∙ p.fine.next;
      records = ap (λ (o : Option TableLit). option_map_or (λ (u : TableLit). map (record_of m.fields) u.records) o []) p.found ∙ p.fine.records;
      rising = k.rising;
    }

    all-written : (ms : List ModelInfo) (us : List TableLit) → AllZip IsPaired ms us → AllByRecursion (λ (m : ModelInfo). IsKept d m (table_of d m.number)) ms → AllByRecursion IsWritten ms
    all-written [] [] ps ks = tt
    all-written [] (u ∷ us) ps ks = absurd ps
    all-written (m ∷ ms) [] ps ks = absurd ps
    all-written (m ∷ ms) (u ∷ us) ps ks = (written m u ps.0 ks.0, all-written ms us ps.1 ks.1)

    holds : (m : ModelInfo) (t : Table) → t.model ≡ m.number → table_of d t.model ≡ Some t → IsWritten m → Holds ts m t
    holds m t same at w =
        let here : table_of d m.number ≡ Some t = subst (λ n. table_of d n ≡ Some t) same at in
        let records : records_of d m.number ≡ t.records = ap (λ (o : Option Table). option_map_or (λ (u : Table). u.records) o []) here in
        record {
          model = same;
          next = sym (w.next ∙ ap (next-of d) here);
          records = subst (IsPermutation (records_for ts m)) (w.records ∙ records) (IsPermutation-refl (records_for ts m));
          rising = subst (λ rs. IsStrictlyIncreasing (map (λ (r : Record). r.id) rs)) records w.rising;
        }

    held : (ms : List ModelInfo) (tables : List Table) → AllZip (λ (m : ModelInfo) (t : Table). t.model ≡ m.number) ms tables → AllByRecursion IsWritten ms
        → AllByRecursion (λ (t : Table). table_of d t.model ≡ Some t) tables → AreHeld ts ms tables
    held [] [] same ws at = tt
    held [] (t ∷ tables) same ws at = absurd same
    held (m ∷ ms) [] same ws at = absurd same
    held (m ∷ ms) (t ∷ tables) same ws at = (holds m t same.0 at.0 ws.0, held ms tables same.1 ws.1 at.1)

    pub printed-reads : Reads s ts d
    printed-reads = record {
      writes = record {
        sound = sound;
        held =
            held s.models d (zip-of-maps (λ (m : ModelInfo). m.number) (λ (t : Table). t.model) s.models d order) (all-written s.models ts pairs kept)
            (finds nat_eq (λ (t : Table). t.model) number-same d is.apart);
      };
      found = none-lost;
    }
