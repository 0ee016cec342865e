-- What is written for the records of a model is its records, with nothing wrong.
use Rattle.std.proofs.Common.{◌≡◌, ◌<◌, ◌≤◌, ◌+◌, ℕ, true, false, List, [], ◌∷◌, map, refl, sym, ◌∙◌, ap, subst, le-leb, lt-ltb}
use Rattle.std.specs.Prelude.{None, nat_eq, nat_le}
use Rattle.std.specs.List.{AllByRecursion, AllZip, IsDistinct}
use Rattle.std.specs.Str.{bytes_eq}
use Rattle.type_schema.specs.Schema.{FieldInfo, ModelInfo}
use Rattle.data_meaning.specs.Values.{last_id}
use Rattle.data_meaning.specs.Database.{Record, Database, records_of, table_of}
use Rattle.data_tree.specs.declared.tables.RecordLit.{RecordLit}
use Rattle.data_tree.specs.declared.tables.TableLit.{TableLit}
use Rattle.data_judge.specs.First.{first_behind, first_given}
use Rattle.data_judge.specs.Faults.{body_fault, has, record_fault, records_fault, row_fault, with_record}
use Rattle.data_judge.specs.Meaning.{record_of, slot_of, with_number}
use Rattle.data_judge.specs.References.{row_lost}
use Rattle.data_judge.proofs.Tests.{has-with}
use Rattle.data_read.specs.Spelled.{IsRecordLitOf, IsTableLitOf}
use Rattle.data_read.proofs.First.{none-given}
use Rattle.data_read.proofs.Lists.{zip-maps, zip-right}
use Rattle.data_read.proofs.Looked.{IsKept, IsRowOf, next-of}
use Rattle.data_read.proofs.Rising.{rises, rising-apart}
use Rattle.data_read.proofs.RowsJudged.{row-kept, row-sound, slots-same}

abbrev id-of : Record → ℕ
id-of r = r.id

abbrev lit-id : RecordLit → ℕ
lit-id w = w.id.number

module _ (d : Database) (m : ModelInfo) (names : IsDistinct bytes_eq (map (λ (f : FieldInfo). f.name) m.fields)) (next : ℕ) where
  -- ---- one record

  record IsRecordFine (r : Record) (w : RecordLit) : Type 0 where
    same : record_of m.fields w ≡ r
    first : 1 ≤ w.id.number
    given : w.id.number < next
    sound : row_fault m.fields w.fields w.«end» ≡ None
    kept : row_lost d m.fields w ≡ None

  record-fine : (r : Record) (w : RecordLit) → IsRecordLitOf m r w → IsRowOf d m next r → IsRecordFine r w
  record-fine r w is row =
      let slots : map (slot_of w.fields) m.fields ≡ r.slots = slots-same d r.slots m.fields w.fields is.fields row.values names ∙ sym row.slots in
      record {
        same =
            ap (λ n. let z : Record = record { id = n; slots = map (slot_of w.fields) m.fields } in z) is.id
            ∙ ap (λ us. let z : Record = record { id = r.id; slots = us } in z) slots;
        first = subst (λ n. 1 ≤ n) (sym is.id) row.first;
        given = subst (λ n. n < next) (sym is.id) row.given;
        sound = row-sound d r.slots m.fields w.fields is.fields row.values names w.«end»;
        kept = row-kept d r.slots m.fields w.fields is.fields row.values names;
      }

  -- ---- one after another

  record-sound : (r : Record) (w : RecordLit) → IsRecordFine r w → (seen : List ℕ) → has seen w.id.number ≡ false → record_fault m.fields next seen w ≡ None
  record-sound r w is seen new = rw (new, le-leb 1 w.id.number is.first, lt-ltb w.id.number next is.given) is.sound

  abbrev IsSoundAlone : RecordLit → Type 0
  IsSoundAlone w = (seen : List ℕ) → has seen w.id.number ≡ false → record_fault m.fields next seen w ≡ None

  new-more : (seen : List ℕ) (n : ℕ) (ws : List RecordLit) → AllByRecursion (λ (w : RecordLit). has seen w.id.number ≡ false) ws
      → AllByRecursion (λ k. nat_eq n k ≡ false) (map lit-id ws) → AllByRecursion (λ (w : RecordLit). has (with_number seen n) w.id.number ≡ false) ws
  new-more seen n [] new apart = tt
  new-more seen n (w ∷ ws) new apart = (has-with seen n w.id.number ∙ rw (apart.0, new.0) refl, new-more seen n ws new.1 apart.1)

  records-sound : (seen : List ℕ) (ws : List RecordLit) → AllByRecursion IsSoundAlone ws → AllByRecursion (λ (w : RecordLit). has seen w.id.number ≡ false) ws
      → IsDistinct nat_eq (map lit-id ws) → first_behind (record_fault m.fields next) with_record seen ws ≡ None
  unfolding IsDistinct
  records-sound seen [] all new apart = refl
  records-sound seen (w ∷ ws) all new apart =
      rw (all.0 seen new.0) (records-sound (with_record seen w) ws all.1 (new-more seen w.id.number ws new.1 apart.0) apart.1)

  all-new : (ws : List RecordLit) → AllByRecursion (λ (w : RecordLit). has [] w.id.number ≡ false) ws
  all-new [] = tt
  all-new (w ∷ ws) = (refl, all-new ws)

  records-same : (rs : List Record) (ws : List RecordLit) → AllZip IsRecordFine rs ws → map (record_of m.fields) ws ≡ rs
  records-same [] [] zip = refl
  records-same [] (w ∷ ws) zip = absurd zip
  records-same (r ∷ rs) [] zip = absurd zip
  records-same (r ∷ rs) (w ∷ ws) zip = ap (λ z. z ∷ map (record_of m.fields) ws) zip.0.same ∙ ap (λ zs. r ∷ zs) (records-same rs ws zip.1)

  all-fine : (rs : List Record) (ws : List RecordLit) → AllZip (IsRecordLitOf m) rs ws → AllByRecursion (IsRowOf d m next) rs → AllZip IsRecordFine rs ws
  all-fine [] [] zip rows = tt
  all-fine [] (w ∷ ws) zip rows = absurd zip
  all-fine (r ∷ rs) [] zip rows = absurd zip
  all-fine (r ∷ rs) (w ∷ ws) zip rows = (record-fine r w zip.0 rows.0, all-fine rs ws zip.1 rows.1)

  module _ (rs : List Record) (ws : List RecordLit) (zip : AllZip (IsRecordLitOf m) rs ws) (rows : AllByRecursion (IsRowOf d m next) rs) where
    pub rows-same : map (record_of m.fields) ws ≡ rs
    rows-same = records-same rs ws (all-fine rs ws zip rows)

    pub rows-sound : IsDistinct nat_eq (map id-of rs) → records_fault m.fields next ws ≡ None
    rows-sound apart =
        let ids : map lit-id ws ≡ map id-of rs = zip-maps (IsRecordLitOf m) id-of lit-id (λ r w is. is.id) rs ws zip in
        records-sound [] ws (zip-right IsRecordFine IsSoundAlone record-sound rs ws (all-fine rs ws zip rows)) (all-new ws) (subst (IsDistinct nat_eq) (sym ids) apart)

    pub rows-kept : first_given (row_lost d m.fields) ws ≡ None
    rows-kept =
        none-given (row_lost d m.fields) ws (zip-right IsRecordFine (λ w. row_lost d m.fields w ≡ None) (λ r w is. is.kept) rs ws (all-fine rs ws zip rows))

-- ---- the table of a model

pub record IsTableFine (d : Database) (m : ModelInfo) (t : TableLit) : Type 0 where
  pub sound : body_fault m.fields t ≡ None
  pub next : t.next.number ≡ next-of d (table_of d m.number)
  pub records : map (record_of m.fields) t.records ≡ records_of d m.number
  pub kept : first_given (row_lost d m.fields) t.records ≡ None

pub table-fine : (d : Database) (m : ModelInfo) (t : TableLit) → IsDistinct bytes_eq (map (λ (f : FieldInfo). f.name) m.fields) → IsKept d m (table_of d m.number) → IsTableLitOf d m t
    → IsTableFine d m t
table-fine d m t names kept is =
    let next = next-of d (table_of d m.number) in
    let rs = records_of d m.number in
    let low : nat_le 1 t.next.number ≡ true = le-leb 1 t.next.number (subst (λ n. 1 ≤ n) (sym is.next) kept.first) in
    let high : nat_le t.next.number (last_id + 1) ≡ true = le-leb t.next.number (last_id + 1) (subst (λ n. n ≤ last_id + 1) (sym is.next) kept.last) in
    let rows = rows-sound d m names next rs t.records is.records kept.rows (rising-apart (map id-of rs) (rises (map id-of rs) kept.rising)) in
    record {
      sound = rw (low, high) (subst (λ n. records_fault m.fields n t.records ≡ None) (sym is.next) rows);
      next = is.next;
      records = rows-same d m names next rs t.records is.records kept.rows;
      kept = rows-kept d m names next rs t.records is.records kept.rows;
    }
