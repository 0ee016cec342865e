-- What is read is a database over the schema.
use Rattle.std.proofs.Common.{◌≡◌, ◌∙◌, sym, ℕ, ◌+◌, ◌<◌, ◌≤◌, Bool, true, false, cond, List, [], ◌∷◌, ◌++◌, map, refl, ap, subst, arith}
use Rattle.std.specs.Prelude.{Option, Some, None, nat_eq, ◌==◌, ◌||◌, if◌then◌else◌}
use Rattle.std.specs.Option.{option_map_or}
use Rattle.std.specs.List.{AllByRecursion, IsDistinct, find, list_any}
use Rattle.std.specs.Str.{bytes_eq}
use Rattle.std.proofs.lemmas.Bool.{eq-eqb, eqb-true}
use Rattle.std.proofs.lemmas.Slice.Eq.{bytes_eq-Decides}
use Rattle.std.proofs.lemmas.List.Sorted.{IsPermutation-sym}
use Rattle.type_schema.specs.Schema.{StaticInfo, FieldInfo, ModelInfo, Schema}
use Rattle.type_schema.specs.Proper.{AreProperFields, IsProper, model_numbers}
use Rattle.data_meaning.specs.Values.{IsId, last_id, Nothing}
use Rattle.data_meaning.specs.Database.{Record, Table, Database, table_of, has_record, AreSlots, IsRecordIn, IsTableOf, HasTable, IsDatabase}
use Rattle.data_tree.specs.declared.tables.FieldLit.{FieldLit}
use Rattle.data_tree.specs.declared.tables.RecordLit.{RecordLit}
use Rattle.data_tree.specs.declared.tables.TableLit.{TableLit}
use Rattle.data_judge.specs.declared.fault.Fault.TheVariants as fault
use Rattle.data_judge.specs.First.{first_given, first_behind, pushed}
use Rattle.data_judge.specs.Faults.{field_fault, field_named, are_given, row_fault, table_fault, model_named}
use Rattle.data_judge.specs.Meaning.{value_of, slot_of, record_of, table_for, records_for, Holds, AreHeld}
use Rattle.data_judge.specs.Judged.{Reads}
use Rattle.data_judge.specs.References.{field_lost, row_lost, table_lost}
use Rattle.data_judge.specs.Ranged.{HasRange, HaveRanges, RecordsHaveRanges, IsRanged}
use Rattle.data_judge.proofs.Held.{all-moved}
use Rattle.data_judge.proofs.Sound.{IsSound, IsSoundTable, found-sound}
use Rattle.data_judge.proofs.Tests.{or-none, both, chosen-else, chosen-then}
use Rattle.data_judge.proofs.Typed.{Fits, value-fits}

some-one : {A : Type 0} {a b : A} → Some a ≡ Some b → a ≡ b
some-one e = cc

-- ---- elements that are found by their keys

module _ {A K : Type 0} (eq : K → K → Bool) (same : (k : K) → eq k k ≡ true) (key : A → K) where
  abbrev FindsAll : List A → List A → Type 0
  FindsAll all xs = AllByRecursion (λ x. find (λ y. eq (key y) (key x)) all ≡ Some x) xs

  later : (x : A) (all xs : List A) → AllByRecursion (λ k. eq (key x) k ≡ false) (map key xs) → FindsAll all xs → FindsAll (x ∷ all) xs
  later x all [] apart found = tt
  later x all (y ∷ xs) apart found =
      (ap (λ b. cond b (Some x) (find (λ z. eq (key z) (key y)) all)) apart.0 ∙ found.0, later x all xs apart.1 found.1)

  pub finds-all : (xs : List A) → IsDistinct eq (map key xs) → FindsAll xs xs
  unfolding IsDistinct
  finds-all [] apart = tt
  finds-all (x ∷ xs) apart =
      (ap (λ b. cond b (Some x) (find (λ z. eq (key z) (key x)) xs)) (same (key x)), later x xs xs apart.0 (finds-all xs apart.1))

-- an element that passes a test is found
pub record IsFound {A : Type 0} (p : A → Bool) (xs : List A) : Type 0 where
  pub element : A
  pub found : find p xs ≡ Some element
  pub passes : p element ≡ true

any-found : {A : Type 0} (p : A → Bool) (xs : List A) → list_any p xs ≡ true → IsFound p xs
any-found p [] e = let no : false ≡ true = e in cc
any-found {A} p (x ∷ xs) e =
    elim (p x) as (λ (b : Bool). p x ≡ b → (b || list_any p xs) ≡ true → IsFound p (x ∷ xs)) [
      | true ↦ λ yes h. record { element = x; found = ap (λ b. cond b (Some x) (find p xs)) yes; passes = yes }
      | false ↦ λ no h. (let rest = any-found p xs h in record { element = rest.element; found = ap (λ b. cond b (Some x) (find p xs)) no ∙ rest.found; passes = rest.passes })
    ] refl e

find-passes : {A : Type 0} (p : A → Bool) (xs : List A) (x : A) → find p xs ≡ Some x → p x ≡ true
find-passes p [] x e = cc
find-passes p (y ∷ xs) x e =
    elim (p y) as (λ (b : Bool). p y ≡ b → cond b (Some y) (find p xs) ≡ Some x → p x ≡ true) [
      | true ↦ λ yes h. (let one : y ≡ x = cc in sym (ap p one) ∙ yes)
      | false ↦ λ no h. find-passes p xs x h
    ] refl e

-- what is found among parts none of which gives something
given-clean : {A B : Type 0} (f : A → Option B) (p : A → Bool) (xs : List A) → first_given f xs ≡ None → (x : A) → find p xs ≡ Some x → f x ≡ None
given-clean f p [] e x is = cc
given-clean f p (y ∷ xs) e x is =
    let parts = or-none (f y) (first_given f xs) e in
    elim (p y) as (λ (b : Bool). cond b (Some y) (find p xs) ≡ Some x → f x ≡ None) [
      | true ↦ λ h. (let one : y ≡ x = cc in sym (ap f one) ∙ parts.0)
      | false ↦ λ h. given-clean f p xs parts.1 x h
    ] is

behind-clean : {A B : Type 0} (f : List A → A → Option B) (p : A → Bool) (before xs : List A) → first_behind f pushed before xs ≡ None → (x : A) → find p xs ≡ Some x
    → (seen : List A) × (f seen x ≡ None)
behind-clean f p before [] e x is = cc
behind-clean {A} {B} f p before (y ∷ xs) e x is =
    let parts = or-none (f before y) (first_behind f pushed (pushed before y) xs) e in
    elim (p y) as (λ (b : Bool). cond b (Some y) (find p xs) ≡ Some x → (seen : List A) × (f seen x ≡ None)) [
      | true ↦ λ h. (before, (let one : y ≡ x = cc in sym (ap (f before) one) ∙ parts.0))
      | false ↦ λ h. behind-clean f p (pushed before y) xs parts.1 x h
    ] is

pub bytes-same : (k : List ℕ) → bytes_eq k k ≡ true
bytes-same k = (bytes_eq-Decides k k).1 refl

number-same : (k : ℕ) → nat_eq k k ≡ true
number-same k = eq-eqb k k refl

distinct-back : {K : Type 0} (e : K → K → Bool) (xs ys : List K) → IsDistinct e (xs ++ ys) → IsDistinct e ys
unfolding IsDistinct
distinct-back e [] ys apart = apart
distinct-back e (x ∷ xs) ys apart = distinct-back e xs ys apart.1

pub all-found : {A : Type 0} (P : A → Type 0) (p : A → Bool) (xs : List A) (x : A) → AllByRecursion P xs → find p xs ≡ Some x → P x
all-found P p [] x all e = cc
all-found P p (y ∷ xs) x all e =
    elim (p y) as (λ (b : Bool). cond b (Some y) (find p xs) ≡ Some x → P x) [
      | true ↦ λ h. (let one : y ≡ x = cc in subst P one all.0)
      | false ↦ λ h. all-found P p xs x all.1 h
    ] e

-- ---- ids of records

number-ranged : (P : ℕ → Type 0) (records : List Record) (id : ℕ) → AllByRecursion (λ (r : Record). P r.id) records
    → list_any (λ i. i == id) (map (λ (r : Record). r.id) records) ≡ true → P id
number-ranged P [] id all e = let no : false ≡ true = e in cc
number-ranged P (r ∷ records) id all e =
    elim (r.id == id) as (λ (b : Bool). (r.id == id) ≡ b → (b || list_any (λ i. i == id) (map (λ (s : Record). s.id) records)) ≡ true → P id) [
      | true ↦ λ yes h. subst P (eqb-true r.id id yes) all.0
      | false ↦ λ no h. number-ranged P records id all.1 h
    ] refl e

record-ranged : (d : Database) (m id : ℕ) (found : Option Table) → table_of d m ≡ found → AllByRecursion (λ (t : Table). AllByRecursion (λ (r : Record). IsId r.id) t.records) d
    → list_any (λ i. i == id) (map (λ (r : Record). r.id) (option_map_or (λ (t : Table). t.records) found [])) ≡ true → IsId id
record-ranged d m id None is all e = let no : false ≡ true = e in cc
record-ranged d m id (Some t) is all e =
    number-ranged IsId t.records id (all-found (λ (t : Table). AllByRecursion (λ (r : Record). IsId r.id) t.records) (λ (t : Table). t.model == m) d t all is) e

-- ---- records

module _ (d : Database) (ranged : (m id : ℕ) → has_record d m id ≡ true → IsId id) (fields : List FieldInfo) where
  slot-fits : (ws : List FieldLit) → first_behind (field_fault fields) pushed [] ws ≡ None → first_given (field_lost d fields) ws ≡ None
      → (f : FieldInfo) → field_named fields f.name ≡ Some f → IsFound (λ (w : FieldLit). bytes_eq w.name.name f.name) ws → HasRange (slot_of ws f).value
      → Fits d ranged f.ty (slot_of ws f).value
  slot-fits ws sound found f named w range =
      let p = λ (v : FieldLit). bytes_eq v.name.name f.name in
      let name : w.element.name.name ≡ f.name = (bytes_eq-Decides w.element.name.name f.name).0 w.passes in
      let its : field_named fields w.element.name.name ≡ Some f = ap (field_named fields) name ∙ named in
      let (seen, clean) = behind-clean (field_fault fields) p [] ws sound w.element w.found in
      let fault = rw its at clean in
      let kept : field_lost d fields w.element ≡ None = given-clean (field_lost d fields) p ws found w.element w.found in
      let lost = rw its at kept in
      let is : (slot_of ws f).value ≡ value_of w.element.value = ap (λ (o : Option FieldLit). option_map_or (λ (v : FieldLit). value_of v.value) o Nothing) w.found in
      subst (Fits d ranged f.ty) (sym is) (value-fits d ranged f.ty w.element.value (chosen-else _ _ _ fault).1 (subst HasRange is range) lost)

  slots-fit : (ws : List FieldLit) → first_behind (field_fault fields) pushed [] ws ≡ None → first_given (field_lost d fields) ws ≡ None
      → (fs : List FieldInfo) → AllByRecursion (λ f. field_named fields f.name ≡ Some f) fs → are_given fs ws ≡ true → HaveRanges (map (slot_of ws) fs)
      → AreSlots d fs (map (slot_of ws) fs)
  slots-fit ws sound found [] named given range = tt
  slots-fit ws sound found (f ∷ fs) named given range =
      let p = λ (v : FieldLit). bytes_eq v.name.name f.name in
      let parts = both (list_any p ws) (are_given fs ws) given in
      let fits = slot-fits ws sound found f named.0 (any-found p ws parts.0) range.0 in
      ((refl, fits.0, fits.1), slots-fit ws sound found fs named.1 parts.1 range.1)

  row-fits : (names : IsDistinct bytes_eq (map (λ (f : FieldInfo). f.name) fields)) (r : RecordLit) → row_fault fields r.fields r.«end» ≡ None → row_lost d fields r ≡ None
      → HaveRanges (record_of fields r).slots → AreSlots d fields (record_of fields r).slots
  row-fits names r sound found range =
      let parts = or-none (first_behind (field_fault fields) pushed [] r.fields) (if are_given fields r.fields then None else Some (fault.Absent r.«end»)) sound in
      let given = (chosen-then (are_given fields r.fields) (fault.Absent r.«end») None parts.1).0 in
      slots-fit r.fields parts.0 found fields (finds-all bytes_eq bytes-same (λ (f : FieldInfo). f.name) fields names) given range

-- ---- tables

-- the table that is written for the model, of which no part breaks a rule and no id is lost
record IsGoodTable (d : Database) (m : ModelInfo) (w : TableLit) : Type 0 where
  sound : IsSoundTable m.fields w
  found : first_given (row_lost d m.fields) w.records ≡ None

module _ (d : Database) (models : List ModelInfo) (ts : List TableLit) (sound : first_behind (table_fault models) pushed [] ts ≡ None)
    (found : first_given (table_lost d models) ts ≡ None) where
  good : (m : ModelInfo) → model_named models m.name ≡ Some m → (w : TableLit) → table_for ts m ≡ Some w → IsGoodTable d m w
  good m named w is =
      let p = λ (t : TableLit). bytes_eq t.name.name m.name in
      let name : w.name.name ≡ m.name = (bytes_eq-Decides w.name.name m.name).0 (find-passes p ts w is) in
      let its : model_named models w.name.name ≡ Some m = ap (model_named models) name ∙ named in
      let s = found-sound models p [] ts sound w is in
      let one : s.model ≡ m = some-one (sym s.named ∙ its) in
      let kept : table_lost d models w ≡ None = given-clean (table_lost d models) p ts found w is in
      let lost = rw its at kept in
      record { sound = subst (λ (n : ModelInfo). IsSoundTable n.fields w) one s.sound; found = lost }

-- ids from 1 on and below the next
ids-of-rows : (fields other : List FieldInfo) (next : ℕ) → next ≤ last_id + 1 → (rs : List RecordLit) → AllByRecursion (IsSound other next) rs
    → AllByRecursion (λ (r : Record). IsId r.id) (map (record_of fields) rs)
ids-of-rows fields other next last [] all = tt
ids-of-rows fields other next last (r ∷ rs) all =
    let low : 1 ≤ r.id.number = all.0.first in
    let high : r.id.number < next = all.0.given in
    ((low, (omega (arith, high, last))), ids-of-rows fields other next last rs all.1)

module _ (d : Database) (models : List ModelInfo) (ts : List TableLit) (sound : first_behind (table_fault models) pushed [] ts ≡ None) where
  ids-for : (m : ModelInfo) (o : Option TableLit) → table_for ts m ≡ o → AllByRecursion (λ (r : Record). IsId r.id) (records_for ts m)
  ids-for m None is = rw is tt
  ids-for m (Some w) is =
      let s = found-sound models (λ (t : TableLit). bytes_eq t.name.name m.name) [] ts sound w is in
      rw is (ids-of-rows m.fields s.model.fields w.next.number s.sound.last w.records s.sound.records.each)

  table-ids : (ms : List ModelInfo) (tables : List Table) → AreHeld ts ms tables → AllByRecursion (λ (t : Table). AllByRecursion (λ (r : Record). IsId r.id) t.records) tables
  table-ids [] [] held = tt
  table-ids [] (t ∷ tables) held = absurd held
  table-ids (m ∷ ms) [] held = absurd held
  table-ids (m ∷ ms) (t ∷ tables) held =
      (all-moved (λ (r : Record). IsId r.id) (records_for ts m) t.records held.0.records (ids-for m (table_for ts m) refl), table-ids ms tables held.1)

rows-fit : (d : Database) → ((m id : ℕ) → has_record d m id ≡ true → IsId id) → (m : ModelInfo) → IsDistinct bytes_eq (map (λ (f : FieldInfo). f.name) m.fields) → (next : ℕ)
    → (rs : List RecordLit) → AllByRecursion (IsSound m.fields next) rs → first_given (row_lost d m.fields) rs ≡ None → RecordsHaveRanges (map (record_of m.fields) rs)
    → AllByRecursion (IsRecordIn d m next) (map (record_of m.fields) rs)
rows-fit d ranged m names next [] sound found range = tt
rows-fit d ranged m names next (r ∷ rs) sound found range =
    let parts = or-none (row_lost d m.fields r) (first_given (row_lost d m.fields) rs) found in
    let s : IsSound m.fields next r = sound.0 in (
      record { first = s.first; given = s.given; slots = row-fits d ranged m.fields names r s.row parts.0 range.0 },
      rows-fit d ranged m names next rs sound.1 parts.1 range.1,
    )

module _ (d : Database) (ranged : (m id : ℕ) → has_record d m id ≡ true → IsId id) (models : List ModelInfo) (ts : List TableLit)
    (sound : first_behind (table_fault models) pushed [] ts ≡ None) (found : first_given (table_lost d models) ts ≡ None) where
  table-fits : (m : ModelInfo) → model_named models m.name ≡ Some m → IsDistinct bytes_eq (map (λ (f : FieldInfo). f.name) m.fields) → (t : Table) → Holds ts m t
      → RecordsHaveRanges t.records → (o : Option TableLit) → table_for ts m ≡ o → IsTableOf d m t
  table-fits m named names t held range None is =
      let next : t.next ≡ 1 = held.next ∙ ap (λ (o : Option TableLit). option_map_or (λ (w : TableLit). w.next.number) o 1) is in
      record {
        first = omega (arith, next);
        last = omega (arith, next);
        rising = held.rising;
        records = all-moved (IsRecordIn d m t.next) (records_for ts m) t.records held.records (rw is tt);
      }
  table-fits m named names t held range (Some w) is =
      let g = good d models ts sound found m named w is in
      let next : t.next ≡ w.next.number = held.next ∙ ap (λ (o : Option TableLit). option_map_or (λ (w : TableLit). w.next.number) o 1) is in
      let rows : records_for ts m ≡ map (record_of m.fields) w.records =
      ap (λ (o : Option TableLit). option_map_or (λ (w : TableLit). map (record_of m.fields) w.records) o []) is in
      let back : RecordsHaveRanges (records_for ts m) =
      all-moved (λ (r : Record). HaveRanges r.slots) t.records (records_for ts m) (IsPermutation-sym (records_for ts m) t.records held.records) range in
      let fits = rows-fit d ranged m names w.next.number w.records g.sound.records.each g.found (subst RecordsHaveRanges rows back) in
      let low : 1 ≤ w.next.number = g.sound.first in
      let high : w.next.number ≤ last_id + 1 = g.sound.last in
      record {
        first = omega (arith, next, low);
        last = omega (arith, next, high);
        rising = held.rising;
        records =
            all-moved (IsRecordIn d m t.next) (records_for ts m) t.records held.records
            (subst (λ n. AllByRecursion (IsRecordIn d m n) (records_for ts m)) (sym next) (subst (AllByRecursion (IsRecordIn d m w.next.number)) (sym rows) fits));
      }

  tables-fit : (ms : List ModelInfo) (tables : List Table) → AreHeld ts ms tables → AllByRecursion (λ m. model_named models m.name ≡ Some m) ms
      → AllByRecursion (λ (m : ModelInfo). IsDistinct bytes_eq (map (λ (f : FieldInfo). f.name) m.fields)) ms → IsRanged tables
      → AllByRecursion (λ (t : Table). table_of d t.model ≡ Some t) tables → AllByRecursion (HasTable d) ms
  tables-fit [] [] held named names range there = tt
  tables-fit [] (t ∷ tables) held named names range there = absurd held
  tables-fit (m ∷ ms) [] held named names range there = absurd held
  tables-fit (m ∷ ms) (t ∷ tables) held named names range there =
      let h : Holds ts m t = held.0 in
      let at : table_of d m.number ≡ Some t = ap (table_of d) (sym h.model) ∙ there.0 in (
        (t, at, table-fits m named.0 names.0 t h range.0 (table_for ts m) refl),
        tables-fit ms tables held.1 named.1 names.1 range.1 there.1,
      )

-- ---- the database

pub in-order : (ts : List TableLit) (ms : List ModelInfo) (tables : List Table) → AreHeld ts ms tables → map (λ (t : Table). t.model) tables ≡ model_numbers ms
in-order ts [] [] held = refl
in-order ts [] (t ∷ tables) held = absurd held
in-order ts (m ∷ ms) [] held = absurd held
in-order ts (m ∷ ms) (t ∷ tables) held =
    let h : Holds ts m t = held.0 in
    ap (λ n. n ∷ map (λ (u : Table). u.model) tables) h.model ∙ ap (λ ns. m.number ∷ ns) (in-order ts ms tables held.1)

names-of-fields : (next : ℕ) (models : List ModelInfo) → AllByRecursion (AreProperFields next) models
    → AllByRecursion (λ (m : ModelInfo). IsDistinct bytes_eq (map (λ (f : FieldInfo). f.name) m.fields)) models
names-of-fields next [] all = tt
names-of-fields next (m ∷ models) all = (all.0.names, names-of-fields next models all.1)

pub standard : (s : Schema) (ts : List TableLit) (d : Database) → IsProper s → Reads s ts d → IsRanged d → IsDatabase s d
standard s ts d proper reads range =
    let sound = reads.writes.sound in
    let held = reads.writes.held in
    let order = in-order ts s.models d held in
    let apart : IsDistinct nat_eq (map (λ (t : Table). t.model) d) = subst (IsDistinct nat_eq) (sym order) proper.models.distinct in
    let named = finds-all bytes_eq bytes-same (λ (m : ModelInfo). m.name) s.models
    (distinct-back bytes_eq (map (λ (n : StaticInfo). n.name) s.statics) (map (λ (m : ModelInfo). m.name) s.models) proper.names) in
    let ranged : (m id : ℕ) → has_record d m id ≡ true → IsId id =
    λ m id e. record-ranged d m id (table_of d m) refl (table-ids d s.models ts sound s.models d held) e in
    record {
      apart = apart;
      tables =
          tables-fit d ranged s.models ts sound reads.found s.models d held named (names-of-fields s.next_field s.models proper.fields) range
          (finds-all nat_eq number-same (λ (t : Table). t.model) d apart);
    }
