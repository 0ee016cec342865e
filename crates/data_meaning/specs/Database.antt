-- Databases, of any size. A record holds a value for each field of its model, with the number of the field.
use Rattle.std.specs.Prelude.{◌≡◌, ◌≤◌, ◌<◌, ◌+◌, ℕ, Bool, true, ◌==◌, nat_eq, IsTrue, List, [], ◌∷◌, Option, Some, map}
use Rattle.std.specs.List.{AllByRecursion, list_any, find, IsDistinct}
use Rattle.std.specs.List.Sorted.{IsStrictlyIncreasing}
use Rattle.std.specs.Option.{option_map_or}
use Rattle.type_schema.specs.declared.types.TBase.{TBase}
use Rattle.type_schema.specs.declared.types.TBase.TheVariants as base
use Rattle.type_schema.specs.declared.types.TTy.{TTy}
use Rattle.type_schema.specs.declared.types.TTy.TheVariants.{Plain, Set, Opt}
use Rattle.type_schema.specs.Schema.{FieldInfo, ModelInfo, Schema}
use Rattle.type_schema.specs.Typing.{HasModel}
use Rattle.type_schema.specs.Proper.{model_numbers}
use Rattle.data_meaning.specs.declared.principals.Principal.{Principal}
use Rattle.data_meaning.specs.declared.principals.Principal.TheVariants.{Static, Rec}
use Rattle.data_meaning.specs.Values.{Value, Nothing, IsValueOf, last_id, ids_in}

-- the value of a field, which is known by its number
pub record Slot : Type 0 where
  pub field : ℕ
  pub value : Value

pub record Record : Type 0 where
  pub id : ℕ
  pub slots : List Slot

-- the records of a model by rising id, and an id above all that were given so far
pub record Table : Type 0 where
  pub model : ℕ
  pub next : ℕ
  pub records : List Record

abbrev pub Database : Type 0
Database = List Table

-- ---- look-up

abbrev pub table_of : Database → ℕ → Option Table
table_of d m = find (λ (t : Table). t.model == m) d

-- the records of a model: none where there is no table
abbrev pub records_of : Database → ℕ → List Record
records_of d m = option_map_or (λ (t : Table). t.records) (table_of d m) []

abbrev pub ids_of : Database → ℕ → List ℕ
ids_of d m = map (λ (r : Record). r.id) (records_of d m)

abbrev pub has_record : Database → ℕ → ℕ → Bool
has_record d m id = list_any (λ i. i == id) (ids_of d m)

abbrev pub slots_of : Database → ℕ → ℕ → List Slot
slots_of d m id = option_map_or (λ (r : Record). r.slots) (find (λ (r : Record). r.id == id) (records_of d m)) []

-- the value of the field of a record; where there is no such record or field, which typing and integrity rule out, it is Nothing
abbrev pub field_at : Database → ℕ → ℕ → ℕ → Value
field_at d m id f = option_map_or (λ (slot : Slot). slot.value) (find (λ (slot : Slot). slot.field == f) (slots_of d m id)) Nothing

-- a static principal is always there
abbrev pub is_there : Database → Principal → Bool
is_there d (Static n) = true
is_there d (Rec m id) = has_record d m id

-- ---- what a database is

abbrev pub AreThere : Database → ℕ → List ℕ → Type 0
AreThere d m ids = AllByRecursion (λ id. IsTrue (has_record d m id)) ids

-- each id names a record that is there
abbrev pub IsBaseIntact : Database → TBase → List ℕ → Type 0
IsBaseIntact d base.Bool ids = Unit {0}
IsBaseIntact d base.Int ids = Unit {0}
IsBaseIntact d base.Text ids = Unit {0}
IsBaseIntact d (base.Id m) ids = AreThere d m ids

-- referential integrity of the value of a field: each id in it names a record that is there
abbrev pub IsIntact : Database → TTy → Value → Type 0
IsIntact d (Plain b) v = IsBaseIntact d b (ids_in v)
IsIntact d (Set m) v = AreThere d m (ids_in v)
IsIntact d (Opt b) v = IsBaseIntact d b (ids_in v)

-- one value of its type for each field, in the order of the fields
abbrev pub AreSlots : Database → List FieldInfo → List Slot → Type 0
AreSlots d [] [] = Unit {0}
AreSlots d [] (slot ∷ slots) = ⊥
AreSlots d (f ∷ fields) [] = ⊥
AreSlots d (f ∷ fields) (slot ∷ slots) =
    ((slot.field ≡ f.number) × IsValueOf f.ty slot.value × IsIntact d f.ty slot.value) × AreSlots d fields slots

-- the id was given, and the record holds values of the model's fields
pub record IsRecordIn (d : Database) (m : ModelInfo) (next : ℕ) (r : Record) : Type 0 where
  pub first : 1 ≤ r.id
  pub given : r.id < next
  pub slots : AreSlots d m.fields r.slots

pub record IsTableOf (d : Database) (m : ModelInfo) (t : Table) : Type 0 where
  pub first : 1 ≤ t.next
  pub last : t.next ≤ last_id + 1
  pub rising : IsStrictlyIncreasing (map (λ (r : Record). r.id) t.records)
  pub records : AllByRecursion (IsRecordIn d m t.next) t.records

abbrev pub HasTable : Database → ModelInfo → Type 0
HasTable d m = (t : Table) × (table_of d m.number ≡ Some t) × IsTableOf d m t

-- a database over the schema: it has a table for each model, and may have tables of further models
pub record IsDatabase (s : Schema) (d : Database) : Type 0 where
  pub apart : IsDistinct nat_eq (map (λ (t : Table). t.model) d)
  pub tables : AllByRecursion (HasTable d) s.models

-- there are no tables of further models
abbrev pub HasNoFurtherTables : Schema → Database → Type 0
HasNoFurtherTables s d = AllByRecursion (λ (t : Table). HasModel s t.model) d

-- the tables are those of the schema's models, in their order
abbrev pub IsInOrder : Schema → Database → Type 0
IsInOrder s d = map (λ (t : Table). t.model) d ≡ model_numbers s.models
