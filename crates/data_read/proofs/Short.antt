-- The printed text of a database is not long, by its records and its weight.
use Rattle.std.proofs.Common.{◌≡◌, ◌<◌, ◌≤◌, ◌+◌, ◌*◌, ◌^◌, inl, inr, ℕ, ℤ, Bool, true, false, List, [], ◌∷◌, ◌++◌, codes, length, map, refl, sym, ◌∙◌, ap, subst, arith, rules, length-append}
use Rattle.std.specs.Prelude.{FitsSigned, Option, Some, nat_eq}
use Rattle.std.specs.Fmt.{decimal, signed_decimal}
use Rattle.std.specs.Int.{w64}
use Rattle.std.specs.Int.Signed.{mag}
use Rattle.std.specs.List.{AllByRecursion, AllZip, concat, flat_map, join_by, sum_by}
use Rattle.std.proofs.lemmas.Fmt.{length-decimal-le, length_signed_le}
use Rattle.std.proofs.lemmas.List.Sums.{sum_by-cons}
use Rattle.text_print.specs.Marks.{escape, quoted}
use Rattle.type_schema.specs.declared.types.TBase.{TBase}
use Rattle.type_schema.specs.declared.types.TBase.TheVariants as base
use Rattle.type_schema.specs.declared.types.TTy.{TTy}
use Rattle.type_schema.specs.declared.types.TTy.TheVariants.{Plain, Set, Opt}
use Rattle.type_schema.specs.Schema.{FieldInfo, ModelInfo, Schema}
use Rattle.data_meaning.specs.Values.{Value, Flag, Num, Str, Id, Ids, Nothing, Just, IsBaseValueOf, IsId, IsValueOf, last_id}
use Rattle.data_meaning.specs.Database.{Slot, Record, Table, Database, table_of}
use Rattle.data_records.specs.Room.{most_records, most_weight, record_count, record_weight, total_weight, weight_of}
use Rattle.data_print.specs.Texts.{database_text, id_text, record_text, slot_text, table_text, value_text}
use Rattle.text_print.proofs.Literals.{hex, plain, slashed, way}
use Rattle.data_read.specs.Printable.{IsPrintable}
use Rattle.data_read.specs.Spelled.{held}
use Rattle.data_read.specs.Words.{HasWordsIn, IsFieldName}
use Rattle.data_read.proofs.Lists.{finds, zip-of-maps}
use Rattle.data_read.proofs.Looked.{IsHeld, IsKept, IsRowOf, kept-models, next-of, number-same, records-of, slot-at}

-- ---- values

escape-short : (b : ℕ) → length (escape b) ≤ 4
escape-short b = elim (way b) [
  | plain is h ↦ (let long : length (escape b) ≡ 1 = ap length is in omega (arith, long))
  | slashed letter is h s t ↦ (let long : length (escape b) ≡ 2 = ap length is in omega (arith, long))
  | hex is h ↦ (let long : length (escape b) ≡ 4 = ap length is in omega (arith, long))
]

escaped-short : (bytes : List ℕ) → length (flat_map escape bytes) ≤ 4 * length bytes
escaped-short [] = omega arith
escaped-short (b ∷ bytes) = omega (arith, escape-short b, escaped-short bytes, length-append (escape b) (flat_map escape bytes))

quoted-short : (bytes : List ℕ) → length (quoted bytes) ≤ 2 + 4 * length bytes
quoted-short bytes = omega (arith, escaped-short bytes, length-append (flat_map escape bytes) (codes "\""))

number-short : (n : ℕ) → n ≤ last_id + 1 → length (decimal n) ≤ 19
number-short n low = length-decimal-le 19 n (omega arith) (omega (arith, low)) (omega (arith, low))

id-short : (n : ℕ) → n ≤ last_id + 1 → length (id_text n) ≤ 20
id-short n low = omega (arith, number-short n low)

signed-short : (n : ℤ) → FitsSigned w64 n → length (signed_decimal n) ≤ 20
signed-short n fits = let small : mag n < 2 ^ 63 = search rules in length_signed_le 19 n (omega (arith, small)) small

more-short : (ids : List ℕ) → AllByRecursion IsId ids → length (flat_map (λ id. codes ", " ++ id_text id) ids) ≤ 22 * length ids
more-short [] all = omega arith
more-short (id ∷ ids) all =
    let one : length (id_text id) ≤ 20 = id-short id (omega (arith, all.0.1)) in
    omega (arith, one, more-short ids all.1, length-append (codes ", " ++ id_text id) (flat_map (λ id. codes ", " ++ id_text id) ids))

ids-short : (ids : List ℕ) → AllByRecursion IsId ids → length (join_by id_text (codes ", ") ids) ≤ 22 * length ids
ids-short [] all = omega arith
ids-short (id ∷ ids) all =
    let one : length (id_text id) ≤ 20 = id-short id (omega (arith, all.0.1)) in
    omega (arith, one, more-short ids all.1, length-append (id_text id) (flat_map (λ id. codes ", " ++ id_text id) ids))

set-short : (ids : List ℕ) → AllByRecursion IsId ids → length (value_text (Ids ids)) ≤ 2 + 22 * length ids
set-short ids all = omega (arith, ids-short ids all, length-append (join_by id_text (codes ", ") ids) (codes "]"))

flag-short : (b : Bool) → length (value_text (Flag b)) ≤ 5
flag-short true = omega arith
flag-short false = omega arith

-- a value takes at most so many bytes for each part of its weight
abbrev IsShort : ℕ → Value → Type 0
IsShort most v = length (value_text v) ≤ most * weight_of v

weighs : (v : Value) → 1 ≤ weight_of v
weighs (Flag b) = omega arith
weighs (Num n) = omega arith
weighs (Str bytes) = omega arith
weighs (Id id) = omega arith
weighs (Ids ids) = omega arith
weighs Nothing = omega arith
weighs (Just v) = weighs v

base-short : (b : TBase) (v : Value) → IsBaseValueOf b v → IsShort 20 v
base-short base.Bool v (b, is) = subst (IsShort 20) (sym is) (omega (arith, flag-short b))
base-short base.Int v (n, is, fits) = subst (IsShort 20) (sym is) (omega (arith, signed-short n fits))
base-short base.Text v (bytes, is, fits) = subst (IsShort 20) (sym is) (omega (arith, quoted-short bytes))
base-short (base.Id m) v (id, is, fits) = let one : length (id_text id) ≤ 20 = id-short id (omega (arith, fits.1)) in subst (IsShort 20) (sym is) (omega (arith, one))

just-short : (v : Value) → IsShort 20 v → IsShort 26 (Just v)
just-short v short = omega (arith, short, weighs v, length-append (value_text v) (codes ")"))

value-short : (t : TTy) (v : Value) → IsValueOf t v → IsShort 26 v
value-short (Plain b) v is = omega (arith, base-short b v is)
value-short (Set m) v (ids, is, up, all) = subst (IsShort 26) (sym is) (omega (arith, set-short ids all))
value-short (Opt b) v (inl is) = subst (IsShort 26) (sym is) (omega arith)
value-short (Opt b) v (inr (w, is, fits)) = subst (IsShort 26) (sym is) (just-short w (base-short b w fits))

-- ---- records

name-short : (f : FieldInfo) → IsFieldName f.name → length f.name ≤ 64
name-short f is = is.word.limits

-- the weight of the fields of a record
abbrev fields-weight : List Slot → List FieldInfo → ℕ
fields-weight slots fields = sum_by (λ (f : FieldInfo). weight_of (held slots f.number)) fields

module _ (d : Database) where
  slot-short : (r : Record) (f : FieldInfo) → IsFieldName f.name → IsHeld d r.slots f → length (slot_text r f) ≤ 92 * weight_of (held r.slots f.number)
  slot-short r f name is =
      let v = held r.slots f.number in
      omega (arith, name-short f name, value-short f.ty v is.0, weighs v, length-append f.name (codes ": " ++ (value_text v ++ [])), length-append (value_text v) [])

  more-fields : (r : Record) (fs : List FieldInfo) → AllByRecursion (λ (f : FieldInfo). IsFieldName f.name) fs → AllByRecursion (IsHeld d r.slots) fs
      → length (flat_map (λ f. codes ", " ++ slot_text r f) fs) ≤ 94 * fields-weight r.slots fs
  more-fields r [] names is = omega arith
  more-fields r (f ∷ fs) names is =
      let one = slot-short r f names.0 is.0 in
      let whole = sum_by-cons (λ (g : FieldInfo). weight_of (held r.slots g.number)) f fs in
      omega (arith, one, whole, weighs (held r.slots f.number), more-fields r fs names.1 is.1, length-append (codes ", " ++ slot_text r f) (flat_map (λ g. codes ", " ++ slot_text r g) fs))

  fields-short : (r : Record) (fs : List FieldInfo) → AllByRecursion (λ (f : FieldInfo). IsFieldName f.name) fs → AllByRecursion (IsHeld d r.slots) fs
      → length (join_by (slot_text r) (codes ", ") fs) ≤ 94 * fields-weight r.slots fs
  fields-short r [] names is = omega arith
  fields-short r (f ∷ fs) names is =
      let one = slot-short r f names.0 is.0 in
      let whole = sum_by-cons (λ (g : FieldInfo). weight_of (held r.slots g.number)) f fs in
      omega (arith, one, whole, weighs (held r.slots f.number), more-fields r fs names.1 is.1, length-append (slot_text r f) (flat_map (λ g. codes ", " ++ slot_text r g) fs))

  weight-mapped : (slots : List Slot) (fs : List FieldInfo) → sum_by (λ (slot : Slot). weight_of slot.value) (map (slot-at slots) fs) ≡ fields-weight slots fs
  weight-mapped slots [] = refl
  weight-mapped slots (f ∷ fs) =
      omega (
        arith,
        weight-mapped slots fs,
        sum_by-cons (λ (slot : Slot). weight_of slot.value) (slot-at slots f) (map (slot-at slots) fs),
        sum_by-cons (λ (g : FieldInfo). weight_of (held slots g.number)) f fs,
      )

  record-short : (m : ModelInfo) (next : ℕ) (r : Record) → HasWordsIn m → next ≤ last_id + 1 → IsRowOf d m next r → length (record_text m r) ≤ 26 + 94 * record_weight r
  record-short m next r words low is =
      let weight : record_weight r ≡ fields-weight r.slots m.fields =
      ap (sum_by (λ (slot : Slot). weight_of slot.value)) is.slots ∙ weight-mapped r.slots m.fields in
      let fields = join_by (slot_text r) (codes ", ") m.fields in
      let given : r.id < next = is.given in
      let id : length (id_text r.id) ≤ 20 = id-short r.id (omega (arith, given, low)) in
      omega (arith, weight, id, fields-short r m.fields words.fields is.values, length-append fields (codes "}\n"), length-append (id_text r.id) (codes " {" ++ (fields ++ codes "}\n")))

  records-short : (m : ModelInfo) (next : ℕ) (rs : List Record) → HasWordsIn m → next ≤ last_id + 1 → AllByRecursion (IsRowOf d m next) rs
      → length (flat_map (record_text m) rs) ≤ 26 * length rs + 94 * sum_by record_weight rs
  records-short m next [] words low all = omega arith
  records-short m next (r ∷ rs) words low all =
      omega (
        arith,
        record-short m next r words low all.0,
        records-short m next rs words low all.1,
        sum_by-cons record_weight r rs,
        length-append (record_text m r) (flat_map (record_text m) rs),
      )

  -- ---- tables

  -- the text of a model, by what look-up finds
  found-short : (m : ModelInfo) (o : Option Table) → HasWordsIn m → IsKept d m o
      → length (concat (m.name ∷ codes " " ∷ id_text (next-of d o) ∷ codes " {\n" ∷ flat_map (record_text m) (records-of d o) ∷ codes "}\n" ∷ []))
      ≤ 90 + (26 * length (records-of d o) + 94 * sum_by record_weight (records-of d o))
  found-short m o words is =
      let rows = flat_map (record_text m) (records-of d o) in
      let id = id_text (next-of d o) in
      let name : length m.name ≤ 64 = words.model.word.limits in
      let next : length id ≤ 20 = id-short (next-of d o) is.last in
      omega (
        arith,
        name,
        next,
        records-short m (next-of d o) (records-of d o) words is.last is.rows,
        length-append rows (codes "}\n"),
        length-append id (codes " {\n" ++ (rows ++ codes "}\n")),
        length-append m.name (codes " " ++ (id ++ (codes " {\n" ++ (rows ++ codes "}\n")))),
      )

  table-short : (m : ModelInfo) (t : Table) → HasWordsIn m → IsKept d m (table_of d m.number) → table_of d m.number ≡ Some t
      → length (table_text m.name d m) ≤ 90 + (26 * length t.records + 94 * sum_by record_weight t.records)
  table-short m t words is found =
      subst (λ rs. length (table_text m.name d m) ≤ 90 + (26 * length rs + 94 * sum_by record_weight rs)) (ap (records-of d) found) (found-short m (table_of d m.number) words is)

  pub tables-short : (ms : List ModelInfo) (tables : List Table) → AllByRecursion HasWordsIn ms → AllByRecursion (λ (m : ModelInfo). IsKept d m (table_of d m.number)) ms
      → AllZip (λ (m : ModelInfo) (t : Table). table_of d m.number ≡ Some t) ms tables
      → length (flat_map (λ (m : ModelInfo). table_text m.name d m) ms) ≤ 90 * length ms + (26 * record_count tables + 94 * total_weight tables)
  tables-short [] [] words is found = omega arith
  tables-short [] (t ∷ tables) words is found = absurd found
  tables-short (m ∷ ms) [] words is found = absurd found
  tables-short (m ∷ ms) (t ∷ tables) words is found =
      omega (
        arith,
        table-short m t words.0 is.0 found.0,
        tables-short ms tables words.1 is.1 found.1,
        sum_by-cons (λ (u : Table). length u.records) t tables,
        sum_by-cons (λ (u : Table). sum_by record_weight u.records) t tables,
        length-append (table_text m.name d m) (flat_map (λ (n : ModelInfo). table_text n.name d n) ms),
      )

-- ---- the database

found-zip : (d : Database) (ms : List ModelInfo) (tables : List Table) → AllZip (λ (m : ModelInfo) (t : Table). t.model ≡ m.number) ms tables
    → AllByRecursion (λ (t : Table). table_of d t.model ≡ Some t) tables → AllZip (λ (m : ModelInfo) (t : Table). table_of d m.number ≡ Some t) ms tables
found-zip d [] [] same at = tt
found-zip d [] (t ∷ tables) same at = absurd same
found-zip d (m ∷ ms) [] same at = absurd same
found-zip d (m ∷ ms) (t ∷ tables) same at = (subst (λ n. table_of d n ≡ Some t) same.0 at.0, found-zip d ms tables same.1 at.1)

pub database-short : (s : Schema) (d : Database) → IsPrintable s d → length (database_text s d) ≤ 90 * length s.models + (26 * record_count d + 94 * total_weight d)
database-short s d is =
    tables-short d s.models d is.words (kept-models d s.next_field s.models is.proper.fields is.database.tables)
    (found-zip d s.models d (zip-of-maps (λ (m : ModelInfo). m.number) (λ (t : Table). t.model) s.models d is.order)
    (finds nat_eq (λ (t : Table). t.model) number-same d is.database.apart))

pub few : (s : Schema) (d : Database) → IsPrintable s d → length s.models ≤ 1000000 → record_count d ≤ most_records → total_weight d ≤ most_weight
    → length (database_text s d) < 2 ^ 32
few s d is models records weight = omega (arith, database-short s d is, models, records, weight)
