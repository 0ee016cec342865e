-- A start database without one of its records: what is left, and that there is less of it.
use Rattle.std.proofs.Common.{◌≡◌, ℕ, ◌<◌, Bool, true, false, List, [], refl, ap, sym, ◌∙◌, subst, arith, length}
use Rattle.std.specs.Prelude.{Some, None, ◌==◌}
use Rattle.std.specs.List.{find, list_any, AllByRecursion}
use Rattle.std.specs.Option.{option_map_or}
use Rattle.std.proofs.lemmas.Bool.{eqb-true}
use Rattle.std.proofs.lemmas.Map.Keys.{sorted_from_strictly_increasing}
use Rattle.type_schema.specs.Schema.{ModelInfo, Schema, model_of}
use Rattle.type_schema.specs.Typing.{HasModel}
use Rattle.type_schema.specs.Script.{Script, IsScript}
use Rattle.data_meaning.specs.Database.{Record, Table, Database, table_of, records_of, has_record, slots_of, HasTable, IsDatabase, HasNoFurtherTables}
use Rattle.data_meaning.specs.Gain.{IsStart}
use Rattle.data_records.specs.Removed.{first_reference, without_first, without_record, without_record_in}
use Rattle.data_records.specs.Rising.{ids_by}
use Rattle.data_records.specs.Room.{record_count}
use Rattle.data_records.proofs.Changes.{located, id_is, model_is, some-of, tables-changed}
use Rattle.data_records.proofs.Firsts.{all-changed, found-among, found-passes, length-without, sum-changed}
use Rattle.data_records.proofs.RowOut.{left-differ}
use Rattle.data_records.proofs.Stays.{models-same, records-changed, records-other}
use Rattle.check_witness.proofs.Scripts.{start-fields}
use Rattle.impact_shrink.specs.Small.{IsPart}
use Rattle.impact_shrink.proofs.Among.{any-before, find-other, none-there}
use Rattle.impact_shrink.proofs.Left.{stays-whole}
use Rattle.impact_shrink.proofs.Named.{unnamed-if-whole}

keeps : (id : ℕ) (t : Table) → (without_record_in id t).model ≡ t.model
keeps id t = refl

-- ---- the record is gone

-- the table of a model of the schema
table-in : (s : Schema) (d : Database) → IsDatabase s d → (m : ℕ) (t : Table) → HasModel s m → table_of d m ≡ Some t
    → (id : ℕ) → AllByRecursion (λ (r : Record). (r.id == id) ≡ false) (without_first (id_is id) t.records)
table-in s d is m t has at id =
    let model = some-of (model_of s m) has in
    let of = found-among (HasTable d) (λ (u : ModelInfo). u.number == m) s.models model.0 is.tables model.1 in
    let number : model.0.number ≡ m = eqb-true _ _ (found-passes (λ (u : ModelInfo). u.number == m) s.models model.0 model.1) in
    let here : table_of d m ≡ Some of.0 = ap (table_of d) (sym number) ∙ of.1 in
    let same : of.0 ≡ t = cc (here, at) in
    subst (λ (u : Table). AllByRecursion (λ (r : Record). (r.id == id) ≡ false) (without_first (id_is id) u.records)) same
    (left-differ id of.0.records (sorted_from_strictly_increasing (ids_by of.0.records) of.2.rising))

module _ (s : Schema) (d : Database) (is : IsDatabase s d) (only : HasNoFurtherTables s d) (m id : ℕ) where
  abbrev e : Database
  e = without_record m id d

  pub gone : has_record d m id ≡ true → has_record e m id ≡ false
  gone there =
      let at = located d m id there in
      let has : HasModel s m = subst (λ n. HasModel s n) (eqb-true _ _ (found-passes (model_is m) d at.table at.table_is))
      (found-among (λ (t : Table). HasModel s t.model) (model_is m) d at.table only at.table_is) in
      ap (λ (rs : List Record). list_any (λ i. i == id) (ids_by rs)) (records-changed m (without_record_in id) (keeps id) d at.table at.table_is)
      ∙ none-there id (without_first (id_is id) at.table.records) (table-in s d is m at.table has at.table_is id)

  -- ---- what is left is a part

  abbrev Kept : ℕ → ℕ → Type 0
  Kept n i = (has_record d n i ≡ true) × (slots_of e n i ≡ slots_of d n i)

  kept-in : has_record d m id ≡ true → (i : ℕ) → (i == id) ≡ false → has_record e m i ≡ true → Kept m i
  kept-in there i other h =
      let at = located d m id there in
      let before : records_of d m ≡ at.table.records = ap (λ o. option_map_or (λ (t : Table). t.records) o []) at.table_is in
      let after = records-changed m (without_record_in id) (keeps id) d at.table at.table_is in
      let here : list_any (λ j. j == i) (ids_by (without_first (id_is id) at.table.records)) ≡ true
      = ap (λ (rs : List Record). list_any (λ j. j == i) (ids_by rs)) (sym after) ∙ h in (
        ap (λ (rs : List Record). list_any (λ j. j == i) (ids_by rs)) before ∙ any-before i id at.table.records here,
        ap (λ (rs : List Record). option_map_or (λ (r : Record). r.slots) (find (λ (r : Record). r.id == i) rs) []) after
            ∙ ap (λ o. option_map_or (λ (r : Record). r.slots) o []) (find-other i id other at.table.records)
            ∙ ap (λ (rs : List Record). option_map_or (λ (r : Record). r.slots) (find (λ (r : Record). r.id == i) rs) []) (sym before),
      )

  kept : has_record d m id ≡ true → (n i : ℕ) → has_record e n i ≡ true → Kept n i
  kept there n i h =
      elim (n == m) as (λ (b : Bool). (n == m) ≡ b → Kept n i) [
        | true ↦ λ same.
            let this : n ≡ m = eqb-true _ _ same in
            let at : has_record e m i ≡ true = ap (λ k. has_record e k i) (sym this) ∙ h in
            subst (λ k. Kept k i) (sym this)
            (elim (i == id) as (λ (b : Bool). (i == id) ≡ b → Kept m i) [
              | true ↦ λ is'.
                  let none : has_record e m i ≡ false = ap (has_record e m) (eqb-true _ _ is') ∙ gone there in
                  absurd cc
              | false ↦ λ other. kept-in there i other at
            ] refl)
        | false ↦ λ other.
            let rows = records-other m (without_record_in id) (keeps id) d n other in (
              ap (λ (rs : List Record). list_any (λ j. j == i) (ids_by rs)) (sym rows) ∙ h,
              ap (λ (rs : List Record). option_map_or (λ (r : Record). r.slots) (find (λ (r : Record). r.id == i) rs) []) rows,
            )
      ] refl

  pub part-without : has_record d m id ≡ true → IsPart e d
  part-without there = record { tables = models-same m (without_record_in id) (keeps id) d; records = kept there }

pub part-same : (d : Database) → IsPart d d
part-same d = record { tables = refl; records = λ m id h. (h, refl) }

pub part-of-part : (a b c : Database) → IsPart a b → IsPart b c → IsPart a c
part-of-part a b c p q = record {
  tables = p.tables ∙ q.tables;
  records = λ m id h. let one = p.records m id h in let two = q.records m id one.0 in (two.0, one.1 ∙ two.1);
}

-- ---- there is less of it

pub fewer : (d : Database) (m id : ℕ) → has_record d m id ≡ true → record_count (without_record m id d) < record_count d
fewer d m id there =
    let at = located d m id there in
    let counts = sum-changed (λ (t : Table). length t.records) (model_is m) (without_record_in id) d at.table at.table_is in
    let lengths = length-without (id_is id) at.table.records at.row at.row_is in
    subst (λ e. record_count e < record_count d) (sym (tables-changed m (without_record_in id) d)) (omega (arith, counts, lengths))

-- ---- start databases

pub start-without : (t : Script) → IsScript t → (d : Database) → IsStart t d → (m id : ℕ) → first_reference t.start d m id ≡ None → IsStart t (without_record m id d)
start-without t script d is m id none = record {
  over = stays-whole t.start (start-fields t script) d is.over m id none;
  only = subst (λ (e : Database). AllByRecursion (λ (u : Table). HasModel t.start u.model) e) (sym (tables-changed m (without_record_in id) d))
      (all-changed (λ (u : Table). HasModel t.start u.model) (model_is m) (without_record_in id) (λ u h. h) d is.only);
}

pub named-no-start : (t : Script) → IsScript t → (d : Database) → IsStart t d → (m id : ℕ) → has_record d m id ≡ true → IsStart t (without_record m id d)
    → first_reference t.start d m id ≡ None
named-no-start t script d is m id there left =
    unnamed-if-whole t.start (start-fields t script) d is.over m id (gone t.start d is.over is.only m id there) left.over
