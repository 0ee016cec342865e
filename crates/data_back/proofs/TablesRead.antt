-- Printed tables are read.
use Rattle.std.proofs.Common.{◌≡◌, ℕ, zero, suc, ◌+◌, ◌^◌, ◌<◌, ◌≤◌, Bool, true, false, List, [], ◌∷◌, ◌++◌, map, refl, sym, ◌∙◌, ap, subst, cond, arith, append_assoc, append-nil, codes, length, length-append}
use Rattle.std.specs.Prelude.{Option, Some, None, ◌==◌, nat_eq}
use Rattle.std.specs.List.{find, flat_map, join_by, concat, AllByRecursion, IsDistinct}
use Rattle.std.specs.Option.{option_map_or}
use Rattle.std.proofs.lemmas.Bool.{eq-eqb, eqb-true}
use Rattle.type_schema.specs.Schema.{FieldInfo, ModelInfo, Schema}
use Rattle.type_schema.specs.Proper.{field_numbers, model_numbers}
use Rattle.data_meaning.specs.Values.{Value, Nothing, IsValueOf, last_id}
use Rattle.data_meaning.specs.Database.{Slot, Record, Table, Database, table_of, AreSlots, IsRecordIn, IsTableOf, HasTable, IsDatabase}
use Rattle.data_print.specs.Texts.{id_text, value_text, record_text, table_text, database_text}
use Rattle.data_back.specs.Laws.{EndsNumber}
use Rattle.data_back.proofs.Printed.{pieces-read}
use Rattle.data_back.specs.Reading.{Answer, after, word_at}
use Rattle.data_back.specs.Back.{id_at, slot_at, slots_from, record_at, records_from, table_at, tables_from}
use Rattle.data_back.specs.Printed.{IsStandard, IsNumbered, TablesAreRead}
use Rattle.data_back.proofs.Turns.{map_one}
use Rattle.data_back.proofs.ValuesRead.{id-read, value-read}

pub some-one : {A : Type 0} {a b : A} → Some a ≡ Some b → a ≡ b
some-one e = cc

-- ---- fields of a record, looked up by their numbers

abbrev held : List Slot → ℕ → Value
held slots f = option_map_or (λ (slot : Slot). slot.value) (find (λ (slot : Slot). slot.field == f) slots) Nothing

abbrev named : List Slot → FieldInfo → List ℕ
named slots f = concat (f.name ∷ codes ": " ∷ value_text (held slots f.number) ∷ [])

-- fields behind the first
abbrev more : List Slot → List FieldInfo → List ℕ
more slots = flat_map (λ f. codes ", " ++ named slots f)

abbrev a-slot : ℕ → Value → Slot
a-slot f v = record { field = f; value = v }

abbrev a-record : ℕ → List Slot → Record
a-record i slots = record { id = i; slots = slots }

abbrev a-table : ℕ → ℕ → List Record → Table
a-table m n records = record { model = m; next = n; records = records }

held-first : (a : Slot) (us : List Slot) (f : ℕ) → a.field ≡ f → held (a ∷ us) f ≡ a.value
held-first a us f e = ap (λ b. option_map_or (λ (slot : Slot). slot.value) (cond b (Some a) (find (λ (slot : Slot). slot.field == f) us)) Nothing) (eq-eqb a.field f e)

held-later : (a : Slot) (us : List Slot) (n g : ℕ) → a.field ≡ n → nat_eq n g ≡ false → held (a ∷ us) g ≡ held us g
held-later a us n g e other =
    ap (λ b. option_map_or (λ (slot : Slot). slot.value) (cond b (Some a) (find (λ (slot : Slot). slot.field == g) us)) Nothing) (ap (λ k. k == g) e ∙ other)

more-later : (a : Slot) (us : List Slot) (n : ℕ) (fs : List FieldInfo) → a.field ≡ n → AllByRecursion (λ k. nat_eq n k ≡ false) (field_numbers fs) → more (a ∷ us) fs ≡ more us fs
more-later a us n [] e others = refl
more-later a us n (f ∷ fs) e others =
    ap (λ v. (codes ", " ++ concat (f.name ∷ codes ": " ∷ value_text v ∷ [])) ++ more (a ∷ us) fs) (held-later a us n f.number e others.0)
    ∙ ap (λ z. (codes ", " ++ named us f) ++ z) (more-later a us n fs e others.1)

spread : (n v m t : List ℕ) → ((n ++ (codes ": " ++ (v ++ []))) ++ m) ++ t ≡ n ++ (codes ": " ++ (v ++ (m ++ t)))
spread n v m t = simp (append_assoc, append-nil)

spread-field : (f : FieldInfo) (slots : List Slot) (fs : List FieldInfo) (v : Value) (m t : List ℕ) → held slots f.number ≡ v → more slots fs ≡ m
    → (named slots f ++ more slots fs) ++ t ≡ f.name ++ (codes ": " ++ (value_text v ++ (m ++ t)))
spread-field f slots fs v m t hv hm =
    ap (λ w. (concat (f.name ∷ codes ": " ∷ value_text w ∷ []) ++ more slots fs) ++ t) hv
    ∙ ap (λ z. (concat (f.name ∷ codes ": " ∷ value_text v ∷ []) ++ z) ++ t) hm ∙ spread f.name (value_text v) m t

ends-more : (slots : List Slot) (fs : List FieldInfo) (r : List ℕ) → EndsNumber (more slots fs ++ 125 ∷ r)
ends-more slots [] r = refl
ends-more slots (f ∷ fs) r = refl

slot-read : (f : FieldInfo) (a : Slot) (r : List ℕ) → a.field ≡ f.number → IsValueOf f.ty a.value → EndsNumber r
    → slot_at f (f.name ++ (codes ": " ++ (value_text a.value ++ r))) ≡ Some (a, r)
slot-read f a r same is ends =
    rw (pieces-read.word f.name (codes ": " ++ (value_text a.value ++ r)), value-read f.ty a.value r is ends) (ap (λ n. Some (a-slot n a.value, r)) (sym same))

module _ (d : Database) where
  -- from a field on, where the fields behind it are read
  first-read : (done : List Slot) (f : FieldInfo) (fs : List FieldInfo) (a : Slot) (us : List Slot) (r : List ℕ) → IsDistinct nat_eq (field_numbers (f ∷ fs))
      → AreSlots d (f ∷ fs) (a ∷ us) → slots_from (done ++ a ∷ []) (codes ", ") fs (more us fs ++ 125 ∷ r) ≡ Some ((done ++ a ∷ []) ++ us, 125 ∷ r)
      → slots_from done [] (f ∷ fs) ((named (a ∷ us) f ++ more (a ∷ us) fs) ++ 125 ∷ r) ≡ Some (done ++ a ∷ us, 125 ∷ r)
  unfolding IsDistinct
  first-read done f fs a us r apart is later =
      let text = spread-field f (a ∷ us) fs a.value (more us fs) (125 ∷ r) (held-first a us f.number is.0.0) (more-later a us f.number fs is.0.0 apart.0) in
      let read = slot-read f a (more us fs ++ 125 ∷ r) is.0.0 is.0.1 (ends-more us fs r) in
      ap (slots_from done [] (f ∷ fs)) text ∙ rw read (later ∙ ap (λ z. Some (z, 125 ∷ r)) (append_assoc done (a ∷ []) us))

  more-read : (done : List Slot) (fs : List FieldInfo) (us : List Slot) (r : List ℕ) → IsDistinct nat_eq (field_numbers fs)
      → AreSlots d fs us → slots_from done (codes ", ") fs (more us fs ++ 125 ∷ r) ≡ Some (done ++ us, 125 ∷ r)
  unfolding IsDistinct
  more-read done [] [] r apart is = rw append-nil refl
  more-read done [] (a ∷ us) r apart is = absurd is
  more-read done (f ∷ fs) [] r apart is = absurd is
  more-read done (f ∷ fs) (a ∷ us) r apart is = first-read done f fs a us r apart is (more-read (done ++ a ∷ []) fs us r apart.1 is.1)

  slots-read : (fs : List FieldInfo) (us : List Slot) (r : List ℕ) → IsDistinct nat_eq (field_numbers fs)
      → AreSlots d fs us → slots_from [] [] fs (join_by (named us) (codes ", ") fs ++ 125 ∷ r) ≡ Some (us, 125 ∷ r)
  unfolding IsDistinct
  slots-read [] [] r apart is = refl
  slots-read [] (a ∷ us) r apart is = absurd is
  slots-read (f ∷ fs) [] r apart is = absurd is
  slots-read (f ∷ fs) (a ∷ us) r apart is = first-read [] f fs a us r apart is (more-read (a ∷ []) fs us r apart.1 is.1)

  line : (i c t : List ℕ) → (codes "  " ++ (i ++ (codes " {" ++ (c ++ 125 ∷ 10 ∷ [])))) ++ t ≡ codes "  " ++ (i ++ (codes " {" ++ (c ++ 125 ∷ 10 ∷ t)))
  line i c t = simp append_assoc

  record-read : (m : ModelInfo) (k : ℕ) (p : Record) (r : List ℕ) → IsDistinct nat_eq (field_numbers m.fields) → k ≤ last_id + 1 → IsRecordIn d m k p
      → record_at m.fields (id_text p.id ++ (codes " {" ++ (join_by (named p.slots) (codes ", ") m.fields ++ 125 ∷ 10 ∷ r))) ≡ Some (p, r)
  record-read m k p r apart low is =
      let body = join_by (named p.slots) (codes ", ") m.fields ++ 125 ∷ 10 ∷ r in
      rw (id-read p.id (codes " {" ++ body) (omega (arith, is.given, low)) refl, slots-read m.fields p.slots (10 ∷ r) apart is.slots) refl

  records-read : (m : ModelInfo) (k : ℕ) (done ps : List Record) (turns : ℕ) (r : List ℕ) → IsDistinct nat_eq (field_numbers m.fields)
      → k ≤ last_id + 1 → AllByRecursion (IsRecordIn d m k) ps → length ps < turns
      → records_from m.fields done turns (flat_map (record_text m) ps ++ 125 ∷ 10 ∷ r) ≡ Some (done ++ ps, r)
  records-read m k done ps zero r apart low is below = absurd (omega (arith, below))
  records-read m k done [] (suc turns) r apart low is below = rw append-nil refl
  records-read m k done (p ∷ ps) (suc turns) r apart low is below =
      let rest = flat_map (record_text m) ps ++ 125 ∷ 10 ∷ r in
      let text : flat_map (record_text m) (p ∷ ps) ++ 125 ∷ 10 ∷ r ≡ codes "  " ++ (id_text p.id ++ (codes " {" ++ (join_by (named p.slots) (codes ", ") m.fields ++ 125 ∷ 10 ∷ rest)))
      = append_assoc (record_text m p) (flat_map (record_text m) ps) (125 ∷ 10 ∷ r) ∙ line (id_text p.id) (join_by (named p.slots) (codes ", ") m.fields) rest in
      ap (records_from m.fields done (suc turns)) text
      ∙ rw (record-read m k p rest apart low is.0)
      (records-read m k (done ++ p ∷ []) ps turns r apart low is.1 (omega (arith, below)) ∙ ap (λ z. Some (z, r)) (append_assoc done (p ∷ []) ps))

  records-long : (m : ModelInfo) (ps : List Record) → length ps ≤ length (flat_map (record_text m) ps)
  records-long m [] = omega arith
  records-long m (p ∷ ps) = omega (arith, records-long m ps, length-append (record_text m p) (flat_map (record_text m) ps))

-- ---- tables

-- a table under a name
written : List ℕ → ModelInfo → Table → List ℕ
written name m t = concat (name ∷ codes " " ∷ id_text t.next ∷ codes " {\n" ∷ flat_map (record_text m) t.records ∷ codes "}\n" ∷ [])

is-written : (name : List ℕ) (d : Database) (m : ModelInfo) (t : Table) → table_of d m.number ≡ Some t → table_text name d m ≡ written name m t
unfolding written
is-written name d m t e =
    ap (λ (o : Option Table). concat (name ∷ codes " " ∷ id_text (option_map_or (λ (table : Table). table.next) o 1) ∷ codes " {\n"
    ∷ flat_map (record_text m) (option_map_or (λ (u : Table). u.records) o []) ∷ codes "}\n" ∷ [])) e

lines : (n i c t : List ℕ) → (n ++ (codes " " ++ (i ++ (codes " {\n" ++ (c ++ codes "}\n"))))) ++ t ≡ n ++ (codes " " ++ (i ++ (codes " {\n" ++ (c ++ 125 ∷ 10 ∷ t))))
lines n i c t = simp append_assoc

-- what stands behind the name
abbrev behind : Table → ModelInfo → List ℕ → List ℕ
behind t m rest = codes " " ++ (id_text t.next ++ (codes " {\n" ++ (flat_map (record_text m) t.records ++ 125 ∷ 10 ∷ rest)))

table-read : (d : Database) (m : ModelInfo) (t : Table) (rest : List ℕ) → IsDistinct nat_eq (field_numbers m.fields)
    → t.model ≡ m.number → IsTableOf d m t → table_at m (behind t m rest) ≡ Some (t, rest)
table-read d m t rest apart same is =
    let body = flat_map (record_text m) t.records ++ 125 ∷ 10 ∷ rest in
    let id = id-read t.next (codes " {\n" ++ body) (omega (arith, is.last)) refl in
    let enough : length t.records < length body = omega (arith, records-long d m t.records, length-append (flat_map (record_text m) t.records) (125 ∷ 10 ∷ rest)) in
    let rows = records-read d m t.next [] t.records (length body) rest apart is.last is.records enough in
    rw (id, rows) (ap (λ n. Some (a-table n t.next t.records, rest)) (sym same))

pub printed-read : TablesAreRead
unfolding written
printed-read d m t name rest apart found same is = (
  behind t m rest,
  ap (λ z. z ++ rest) (is-written name d m t found) ∙ lines name (id_text t.next) (flat_map (record_text m) t.records) rest,
  table-read d m t rest apart same is,
)

-- each table of a model is found under its number
abbrev pub AreFound : Database → List ModelInfo → List Table → Type 0
AreFound d [] [] = Unit {0}
AreFound d [] (t ∷ ts) = ⊥
AreFound d (m ∷ models) [] = ⊥
AreFound d (m ∷ models) (t ∷ ts) = ((t.model ≡ m.number) × (table_of d m.number ≡ Some t)) × AreFound d models ts

skip : (t : Table) (d : Database) (k : ℕ) → nat_eq t.model k ≡ false → table_of (t ∷ d) k ≡ table_of d k
skip t d k other = ap (λ b. cond b (Some t) (find (λ (u : Table). u.model == k) d)) other

found-later : (t : Table) (d : Database) (models : List ModelInfo) (ts : List Table) → AllByRecursion (λ k. nat_eq t.model k ≡ false) (model_numbers models)
    → AreFound d models ts → AreFound (t ∷ d) models ts
found-later t d [] [] others found = tt
found-later t d [] (u ∷ ts) others found = absurd found
found-later t d (m ∷ models) [] others found = absurd found
found-later t d (m ∷ models) (u ∷ ts) others found =
    ((found.0.0, skip t d m.number others.0 ∙ found.0.1), found-later t d models ts others.1 found.1)

pub found-all : (models : List ModelInfo) (d : Database) → IsDistinct nat_eq (model_numbers models) → map (λ (t : Table). t.model) d ≡ model_numbers models → AreFound d models d
unfolding IsDistinct
found-all [] [] apart order = tt
found-all [] (t ∷ d) apart order = cc
found-all (m ∷ models) [] apart order = cc
found-all (m ∷ models) (t ∷ d) apart order =
    let same : t.model ≡ m.number = cc in
    let rest : map (λ (u : Table). u.model) d ≡ model_numbers models = cc in
    let others : AllByRecursion (λ k. nat_eq t.model k ≡ false) (model_numbers models) = subst (λ n. AllByRecursion (λ k. nat_eq n k ≡ false) (model_numbers models)) (sym same) apart.0 in (
      (same, ap (λ b. cond b (Some t) (find (λ (u : Table). u.model == m.number) d)) (eq-eqb t.model m.number same)),
      found-later t d models d others (found-all models d apart.1 rest),
    )

-- the tables of a database, printed under the names of the models, are read
tables-read : (d : Database) (done : List Table) (models : List ModelInfo) (ts : List Table) (r : List ℕ)
    → AllByRecursion (λ (m : ModelInfo). IsDistinct nat_eq (field_numbers m.fields)) models → AllByRecursion (HasTable d) models → AreFound d models ts
    → tables_from done models (flat_map (λ m. table_text m.name d m) models ++ r) ≡ Some (done ++ ts, r)
tables-read d done [] [] r apart has found = rw append-nil refl
tables-read d done [] (t ∷ ts) r apart has found = absurd found
tables-read d done (m ∷ models) [] r apart has found = absurd found
tables-read d done (m ∷ models) (t ∷ ts) r apart has found =
    let rest = flat_map (λ i. table_text i.name d i) models ++ r in
    let one : has.0.0 ≡ t = some-one (sym has.0.1 ∙ found.0.1) in
    let is : IsTableOf d m t = subst (IsTableOf d m) one has.0.2 in
    let read = printed-read d m t m.name rest apart.0 found.0.1 found.0.0 is in
    ap (tables_from done (m ∷ models)) (append_assoc (table_text m.name d m) (flat_map (λ i. table_text i.name d i) models) r ∙ read.1)
    ∙ rw (pieces-read.word m.name read.0, read.2)
    (tables-read d (done ++ t ∷ []) models ts r apart.1 has.1 found.1 ∙ ap (λ z. Some (z, r)) (append_assoc done (t ∷ []) ts))

pub database-read : (s : Schema) (d : Database) → IsNumbered s → IsStandard s d → tables_from [] s.models (database_text s d) ≡ Some (d, [])
database-read s d is standard =
    ap (tables_from [] s.models) (sym (append-nil (database_text s d)))
    ∙ tables-read d [] s.models d [] is.fields standard.database.tables (found-all s.models d is.models standard.order)

-- what was read where all was read
after-some : {A B : Type 0} (f : A → List ℕ → Answer B) (a : Answer A) (b : B × List ℕ) → after f a ≡ Some b → (p : A × List ℕ) × (a ≡ Some p) × (f p.0 p.1 ≡ Some b)
after-some f None b e = cc
after-some f (Some p) b e = (p, refl, e)

table-model : (m : ModelInfo) (text : List ℕ) (t : Table) (rest : List ℕ) → table_at m text ≡ Some (t, rest) → t.model ≡ m.number
table-model m text t rest e =
    let one = after-some (λ _ b. after (λ next c. after (λ _ d. after (λ records e. Some (a-table m.number next records, e)) (records_from m.fields [] (length d) d)) (word_at (codes " {\n") c)) (id_at b))
    (word_at (codes " ") text) (t, rest) e in
    let two = after-some (λ next c. after (λ _ d. after (λ records e. Some (a-table m.number next records, e)) (records_from m.fields [] (length d) d)) (word_at (codes " {\n") c)) (id_at one.0.1) (t, rest) one.2 in
    let three = after-some (λ _ d. after (λ records e. Some (a-table m.number two.0.0 records, e)) (records_from m.fields [] (length d) d)) (word_at (codes " {\n") two.0.1) (t, rest) two.2 in
    let four = after-some (λ records e. Some (a-table m.number two.0.0 records, e)) (records_from m.fields [] (length three.0.1) three.0.1) (t, rest) three.2 in
    sym (ap (λ (p : Table × List ℕ). p.0.model) (some-one four.2))

-- tables that are read are those of the models, in their order
pub in-order : (done : List Table) (models : List ModelInfo) (text : List ℕ) (ts : List Table) (rest : List ℕ) → tables_from done models text ≡ Some (ts, rest)
    → map (λ (t : Table). t.model) ts ≡ map (λ (t : Table). t.model) done ++ model_numbers models
in-order done [] text ts rest e =
    ap (map (λ (t : Table). t.model)) (sym (ap (λ (p : List Table × List ℕ). p.0) (some-one e))) ∙ sym (append-nil (map (λ (t : Table). t.model) done))
in-order done (m ∷ models) text ts rest e =
    let one = after-some (λ _ more. after (λ t last. tables_from (done ++ t ∷ []) models last) (table_at m more)) (word_at m.name text) (ts, rest) e in
    let two = after-some (λ t last. tables_from (done ++ t ∷ []) models last) (table_at m one.0.1) (ts, rest) one.2 in
    let number = table-model m one.0.1 two.0.0 two.0.1 two.1 in
    in-order (done ++ two.0.0 ∷ []) models two.0.1 ts rest two.2
    ∙ ap (λ ns. ns ++ model_numbers models) (map_one (λ (t : Table). t.model) done two.0.0)
    ∙ append_assoc (map (λ (t : Table). t.model) done) (two.0.0.model ∷ []) (model_numbers models)
    ∙ ap (λ n. map (λ (t : Table). t.model) done ++ n ∷ model_numbers models) number
