-- A database without records, and one more record, which keeps a database a database.
use Rattle.std.proofs.Common.{◌≡◌, ℕ, ◌<◌, ◌+◌, Bool, true, false, ◌||◌, ◌&&◌, List, [], ◌∷◌, ◌++◌, refl, ap, sym, ◌∙◌, subst, cond, arith, map}
use Rattle.std.specs.Prelude.{Some, ◌==◌, nat_eq}
use Rattle.std.specs.List.{list_any, AllByRecursion, IsDistinct}
use Rattle.std.specs.Option.{option_map_or}
use Rattle.std.proofs.lemmas.Bool.{eqb-true, eq-eqb}
use Rattle.type_schema.specs.Schema.{FieldInfo, ModelInfo, Schema, model_of}
use Rattle.type_schema.specs.Proper.{IsProper}
use Rattle.type_schema.specs.Typing.{IsField, IsModel}
use Rattle.data_meaning.specs.Values.{Value, IsId}
use Rattle.data_meaning.specs.Database.{Record, Table, Database, table_of, has_record, AreSlots, IsRecordIn, IsTableOf, HasTable, IsDatabase}
use Rattle.data_records.specs.Inserted.{IsAdmitted, empty_of, empty_table, is_there_or_next, next_of, with_record, with_row}
use Rattle.data_records.specs.Rows.{AreAllThere, AreShaped, slots_from}
use Rattle.data_records.specs.Shape.{There}
use Rattle.data_records.proofs.Firsts.{found-among}
use Rattle.data_records.proofs.Pushed.{rising-push}
use Rattle.data_records.proofs.Real.{AreReal, value-real, id-real}
use Rattle.data_records.proofs.Stays.{models-same, table-carried, records-carried, records-changed, only-model, table-stays, all-zipped, has-carried}

-- ---- no records

models-empty : (infos : List ModelInfo) → map (λ (t : Table). t.model) (map empty_table infos) ≡ map (λ (i : ModelInfo). i.number) infos
models-empty [] = refl
models-empty (info ∷ infos) = ap (λ ns. info.number ∷ ns) (models-empty infos)

tables-empty : (infos : List ModelInfo) → IsDistinct nat_eq (map (λ (i : ModelInfo). i.number) infos)
    → AllByRecursion (λ (i : ModelInfo). table_of (map empty_table infos) i.number ≡ Some (empty_table i)) infos
unfolding IsDistinct
tables-empty [] apart = tt
tables-empty (info ∷ infos) apart =
    (ap (λ b. cond b (Some (empty_table info)) (table_of (map empty_table infos) info.number)) (eq-eqb info.number info.number refl), later infos infos apart.0 (tables-empty infos apart.1))
  where
    later : (all : List ModelInfo) (js : List ModelInfo) → AllByRecursion (λ n. nat_eq info.number n ≡ false) (map (λ (i : ModelInfo). i.number) js)
        → AllByRecursion (λ (i : ModelInfo). table_of (map empty_table all) i.number ≡ Some (empty_table i)) js
        → AllByRecursion (λ (i : ModelInfo). table_of (empty_table info ∷ map empty_table all) i.number ≡ Some (empty_table i)) js
    later all [] differ at = tt
    later all (j ∷ js) differ at =
        (ap (λ b. cond b (Some (empty_table info)) (table_of (map empty_table all) j.number)) differ.0 ∙ at.0, later all js differ.1 at.1)

pub empty-is : (s : Schema) → IsProper s → IsDatabase s (empty_of s)
empty-is s proper = record {
  apart = subst (IsDistinct nat_eq) (sym (models-empty s.models)) proper.models.distinct;
  tables = each s.models (tables-empty s.models proper.models.distinct);
}
  where
    each : (infos : List ModelInfo) → AllByRecursion (λ (i : ModelInfo). table_of (empty_of s) i.number ≡ Some (empty_table i)) infos → AllByRecursion (HasTable (empty_of s)) infos
    each [] at = tt
    each (info ∷ infos) at =
        let of : IsTableOf (empty_of s) info (empty_table info) = record { first = omega arith; last = omega arith; rising = λ k below. absurd (omega arith); records = tt } in
        ((empty_table info, at.0, of), each infos at.1)

-- ---- one more record

any-more : (i : ℕ) (rs : List Record) (r : Record) → list_any (λ j. j == i) (map (λ (u : Record). u.id) rs) ≡ true
    → list_any (λ j. j == i) (map (λ (u : Record). u.id) (rs ++ r ∷ [])) ≡ true
any-more i [] r h = cc
any-more i (u ∷ rs) r h =
    elim (u.id == i) as (λ (b : Bool). (b || list_any (λ j. j == i) (map (λ (v : Record). v.id) rs)) ≡ true
    → (b || list_any (λ j. j == i) (map (λ (v : Record). v.id) (rs ++ r ∷ []))) ≡ true) [
      | true ↦ λ e. refl
      | false ↦ λ e. any-more i rs r e
    ] h

any-last : (rs : List Record) (r : Record) → list_any (λ j. j == r.id) (map (λ (u : Record). u.id) (rs ++ r ∷ [])) ≡ true
any-last [] r = ap (λ b. b || false) (eq-eqb r.id r.id refl)
any-last (u ∷ rs) r =
    elim (u.id == r.id) as (λ (b : Bool). (b || list_any (λ j. j == r.id) (map (λ (v : Record). v.id) (rs ++ r ∷ []))) ≡ true) [ true ↦ refl | false ↦ any-last rs r ]

grown : (e : Database) (info : ModelInfo) (next : ℕ) (rs : List Record) (r : Record) → AllByRecursion (IsRecordIn e info next) rs → IsRecordIn e info (next + 1) r
    → AllByRecursion (IsRecordIn e info (next + 1)) (rs ++ r ∷ [])
grown e info next [] r all one = (one, tt)
grown e info next (u ∷ rs) r all one =
    let given = all.0.given in
    (record { first = all.0.first; given = omega (arith, given); slots = all.0.slots }, grown e info next rs r all.1 one)

all-below : (e : Database) (info : ModelInfo) (next n : ℕ) → n ≡ next → (rs : List Record) → AllByRecursion (IsRecordIn e info next) rs → AllByRecursion (λ (u : Record). u.id < n) rs
all-below e info next n same [] all = tt
all-below e info next n same (u ∷ rs) all = let given = all.0.given in (omega (arith, given, same), all-below e info next n same rs all.1)

slots-row : (s : Schema) (m : ℕ) (there : There) (e : Database) → AreReal s there e → (fields : List FieldInfo) (row : List Value) → AllByRecursion (IsField s m) fields
    → AreShaped fields row → AreAllThere there fields row → AreSlots e fields (slots_from fields row)
slots-row s m there e real [] [] typed shaped all = tt
slots-row s m there e real [] (v ∷ row) typed shaped all = absurd shaped
slots-row s m there e real (f ∷ fields) [] typed shaped all = absurd shaped
slots-row s m there e real (f ∷ fields) (v ∷ row) typed shaped all =
    let one = value-real s there e real f.ty typed.0.ty v shaped.0 all.0 in
    ((refl, one.0, one.1), slots-row s m there e real fields row typed.1 shaped.1 all.1)

module _ (s : Schema) (proper : IsProper s) (d : Database) (is : IsDatabase s d) where
  module _ (info : ModelInfo) (row : List Value) (model : model_of s info.number ≡ Some info) (ok : IsAdmitted info d row) where
    abbrev m : ℕ
    m = info.number

    abbrev r : Record
    r = record { id = next_of d m; slots = slots_from info.fields row }

    abbrev g : Table → Table
    g = with_record r

    abbrev e : Database
    e = with_row info row d

    keeps : (t : Table) → (g t).model ≡ t.model
    keeps t = refl

    has : HasTable d info
    has = found-among (HasTable d) (λ (u : ModelInfo). u.number == m) s.models info is.tables model

    next-is : (t : Table) → table_of d m ≡ Some t → next_of d m ≡ t.next
    next-is t at = ap (λ o. option_map_or (λ (u : Table). u.next) o 1) at

    more : (n i : ℕ) → has_record d n i ≡ true → has_record e n i ≡ true
    more n i there = has-carried m g keeps d n i (λ same t at h. any-more i t.records r h) there

    new-there : has_record e m (next_of d m) ≡ true
    new-there = ap (λ rs. list_any (λ j. j == next_of d m) (map (λ (u : Record). u.id) rs)) (records-changed m g keeps d has.0 has.1) ∙ any-last has.0.records r

    new-id : IsId (next_of d m)
    new-id =
        let first = has.2.first in
        let unspent = ok.unspent in
        (omega (arith, first, next-is has.0 has.1), unspent)

    real : AreReal s (is_there_or_next d m) e
    real n i typed there =
        elim (has_record d n i) as (λ (b : Bool). has_record d n i ≡ b → (b || ((n == m) && (i == next_of d m))) ≡ true → IsId i × (has_record e n i ≡ true)) [
          | true ↦ λ was h. (id-real s d is n i typed was, more n i was)
          | false ↦ λ was h. new h
        ] refl there
      where
        new : ((n == m) && (i == next_of d m)) ≡ true → IsId i × (has_record e n i ≡ true)
        new h =
            elim (n == m) as (λ (b : Bool). (n == m) ≡ b → (b && (i == next_of d m)) ≡ true → IsId i × (has_record e n i ≡ true)) [
              | true ↦ λ here k.
                  let model_same : n ≡ m = eqb-true _ _ here in
                  let id_same : i ≡ next_of d m = eqb-true _ _ k in
                  (subst IsId (sym id_same) new-id, subst (λ j. has_record e j i ≡ true) (sym model_same) (subst (λ j. has_record e m j ≡ true) (sym id_same) new-there))
              | false ↦ λ here k. cc
            ] refl h

    typed-fields : AllByRecursion (IsField s m) info.fields
    typed-fields = (found-among (IsModel s) (λ (u : ModelInfo). u.number == m) s.models info proper.typed model).fields

    table-grown : (t : Table) → table_of d m ≡ Some t → IsTableOf d info t → IsTableOf e info (g t)
    table-grown t at of =
        let next = next-is t at in
        let unspent = ok.unspent in
        record {
          first = omega arith;
          last = omega (arith, next, unspent);
          rising = rising-push t.records r of.rising (all-below d info t.next (next_of d m) next t.records of.records);
          records = grown e info t.next t.records r (records-carried d e more info t.next t.records of.records)
              (record {
                first = new-id.0;
                given = omega (arith, next);
                slots = slots-row s m (is_there_or_next d m) e real info.fields row typed-fields ok.shaped ok.there;
              });
        }

    pub insert-keeps : IsDatabase s e
    insert-keeps = record {
      apart = subst (IsDistinct nat_eq) (sym (models-same m g keeps d)) is.apart;
      tables = all-zipped (HasTable d) (λ (i : ModelInfo). i.number ≡ m → i ≡ info) (HasTable e)
          (λ i has only. table-stays m g keeps d i (λ t other at of. table-carried d e more i t of)
          (λ t here at of. let it : i ≡ info = only here in subst (λ (u : ModelInfo). IsTableOf e u (g t)) (sym it) (table-grown t at (subst (λ (u : ModelInfo). IsTableOf d u t) it of))) has)
          s.models is.tables (only-model m info s.models proper.models.distinct model);
    }
