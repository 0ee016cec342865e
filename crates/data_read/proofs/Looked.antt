-- What look-up finds in a database over a schema.
use Rattle.std.proofs.Common.{◌≡◌, ◌<◌, ◌≤◌, ◌+◌, ℕ, true, List, [], ◌∷◌, map, refl, sym, ◌∙◌, ap, subst, arith, eq-eqb}
use Rattle.std.specs.Prelude.{Option, Some, nat_eq, ◌==◌}
use Rattle.std.specs.List.{AllByRecursion, IsDistinct, find}
use Rattle.std.specs.List.Sorted.{IsStrictlyIncreasing}
use Rattle.std.specs.Option.{option_map_or}
use Rattle.type_schema.specs.Schema.{FieldInfo, ModelInfo}
use Rattle.type_schema.specs.Proper.{AreProperFields, field_numbers}
use Rattle.data_meaning.specs.Values.{Nothing, IsValueOf, last_id}
use Rattle.data_meaning.specs.Database.{Slot, Record, Table, Database, AreSlots, HasTable, IsIntact, IsRecordIn, IsTableOf, table_of}
use Rattle.data_read.specs.Spelled.{held}
use Rattle.data_read.specs.Words.{HasWordsIn, IsFieldName}
use Rattle.data_read.proofs.Lists.{finds}
use Rattle.data_read.proofs.TablesTold.{IsModelIn, IsRowIn, IsSlotIn}

pub number-same : (k : ℕ) → nat_eq k k ≡ true
number-same k = eq-eqb k k refl

-- the slot of a field, with the value that is held
abbrev pub slot-at : List Slot → FieldInfo → Slot
slot-at slots f = record { field = f.number; value = held slots f.number }

-- a value of the field's type is held, and each id in it names a record
abbrev pub IsHeld : Database → List Slot → FieldInfo → Type 0
IsHeld d slots f = IsValueOf f.ty (held slots f.number) × IsIntact d f.ty (held slots f.number)

module _ (d : Database) where
  numbers-are : (fields : List FieldInfo) (slots : List Slot) → AreSlots d fields slots → map (λ (s : Slot). s.field) slots ≡ field_numbers fields
  numbers-are [] [] is = refl
  numbers-are [] (s ∷ slots) is = absurd is
  numbers-are (f ∷ fields) [] is = absurd is
  numbers-are (f ∷ fields) (s ∷ slots) is =
      ap (λ n. n ∷ map (λ (s : Slot). s.field) slots) is.0.0 ∙ ap (λ ns. f.number ∷ ns) (numbers-are fields slots is.1)

  record Looked (all : List Slot) (fields : List FieldInfo) (slots : List Slot) : Type 0 where
    values : AllByRecursion (IsHeld d all) fields
    same : slots ≡ map (slot-at all) fields

  looked : (all : List Slot) (fields : List FieldInfo) (slots : List Slot) → AreSlots d fields slots
      → AllByRecursion (λ (s : Slot). find (λ (t : Slot). nat_eq t.field s.field) all ≡ Some s) slots → Looked all fields slots
  looked all [] [] is found = record { values = tt; same = refl }
  looked all [] (s ∷ slots) is found = absurd is
  looked all (f ∷ fields) [] is found = absurd is
  looked all (f ∷ fields) (s ∷ slots) is found =
      let same : s.field ≡ f.number = is.0.0 in
      let at : find (λ (t : Slot). t.field == f.number) all ≡ Some s = subst (λ n. find (λ (t : Slot). nat_eq t.field n) all ≡ Some s) same found.0 in
      let value : held all f.number ≡ s.value = ap (λ (o : Option Slot). option_map_or (λ (slot : Slot). slot.value) o Nothing) at in
      let later = looked all fields slots is.1 found.1 in
      let one : s ≡ slot-at all f =
      ap (λ n. let z : Slot = record { field = n; value = s.value } in z) same ∙ ap (λ v. let z : Slot = record { field = f.number; value = v } in z) (sym value) in
      record {
        values = ((subst (IsValueOf f.ty) (sym value) is.0.1, subst (IsIntact d f.ty) (sym value) is.0.2), later.values);
        same = ap (λ z. z ∷ slots) one ∙ ap (λ zs. slot-at all f ∷ zs) later.same;
      }

  -- ---- records and tables

  pub record IsRowOf (m : ModelInfo) (next : ℕ) (r : Record) : Type 0 where
    pub first : 1 ≤ r.id
    pub given : r.id < next
    pub values : AllByRecursion (IsHeld d r.slots) m.fields
    pub slots : r.slots ≡ map (slot-at r.slots) m.fields

  row-of : (m : ModelInfo) (next : ℕ) (r : Record) → IsDistinct nat_eq (field_numbers m.fields) → IsRecordIn d m next r → IsRowOf m next r
  row-of m next r apart is =
      let numbers = numbers-are m.fields r.slots is.slots in
      let l = looked r.slots m.fields r.slots is.slots (finds nat_eq (λ (s : Slot). s.field) number-same r.slots (subst (IsDistinct nat_eq) (sym numbers) apart)) in
      record { first = is.first; given = is.given; values = l.values; slots = l.same }

  rows-of : (m : ModelInfo) (next : ℕ) (rs : List Record) → IsDistinct nat_eq (field_numbers m.fields) → AllByRecursion (IsRecordIn d m next) rs
      → AllByRecursion (IsRowOf m next) rs
  rows-of m next [] apart all = tt
  rows-of m next (r ∷ rs) apart all = (row-of m next r apart all.0, rows-of m next rs apart all.1)

  abbrev pub next-of : Option Table → ℕ
  next-of o = option_map_or (λ (t : Table). t.next) o 1

  abbrev pub records-of : Option Table → List Record
  records-of o = option_map_or (λ (t : Table). t.records) o []

  -- the table that is found is one of the model
  pub record IsKept (m : ModelInfo) (o : Option Table) : Type 0 where
    pub first : 1 ≤ next-of o
    pub last : next-of o ≤ last_id + 1
    pub rising : IsStrictlyIncreasing (map (λ (r : Record). r.id) (records-of o))
    pub rows : AllByRecursion (IsRowOf m (next-of o)) (records-of o)

  kept-table : (m : ModelInfo) (t : Table) → IsDistinct nat_eq (field_numbers m.fields) → IsTableOf d m t → IsKept m (Some t)
  kept-table m t apart is = record { first = is.first; last = is.last; rising = is.rising; rows = rows-of m t.next t.records apart is.records }

  pub kept-models : (next : ℕ) (models : List ModelInfo) → AllByRecursion (AreProperFields next) models → AllByRecursion (HasTable d) models
      → AllByRecursion (λ m. IsKept m (table_of d m.number)) models
  kept-models next [] proper all = tt
  kept-models next (m ∷ models) proper ((t, found, is), all) =
      (subst (IsKept m) (sym found) (kept-table m t proper.0.numbers.distinct is), kept-models next models proper.1 all)

  -- ---- what can be written

  slots-in : (slots : List Slot) (fields : List FieldInfo) → AllByRecursion (λ (f : FieldInfo). IsFieldName f.name) fields → AllByRecursion (IsHeld d slots) fields
      → AllByRecursion (IsSlotIn slots) fields
  slots-in slots [] names all = tt
  slots-in slots (f ∷ fields) names all = ((names.0, all.0.0), slots-in slots fields names.1 all.1)

  rows-in : (m : ModelInfo) (next : ℕ) (rs : List Record) → HasWordsIn m → next ≤ last_id + 1 → AllByRecursion (IsRowOf m next) rs → AllByRecursion (IsRowIn m) rs
  rows-in m next [] words low all = tt
  rows-in m next (r ∷ rs) words low all =
      let given : r.id < next = all.0.given in
      (record { id = omega (arith, given, low); slots = slots-in r.slots m.fields words.fields all.0.values }, rows-in m next rs words low all.1)

  model-in : (m : ModelInfo) → HasWordsIn m → IsKept m (table_of d m.number) → IsModelIn d m
  model-in m words is =
      let low : next-of (table_of d m.number) ≤ last_id + 1 = is.last in
      record { words = words; next = omega (arith, low); rows = rows-in m (next-of (table_of d m.number)) (records-of (table_of d m.number)) words low is.rows }

  pub models-in : (models : List ModelInfo) → AllByRecursion HasWordsIn models → AllByRecursion (λ m. IsKept m (table_of d m.number)) models
      → AllByRecursion (IsModelIn d) models
  models-in [] words all = tt
  models-in (m ∷ models) words all = (model-in m words.0 all.0, models-in models words.1 all.1)
