-- The tables that a printed text spells: those of the database, with whatever offsets.
use Rattle.std.specs.Prelude.{◌≡◌, ℕ, ◌==◌, List}
use Rattle.std.specs.List.{AllZip, find}
use Rattle.std.specs.Option.{option_map_or}
use Rattle.data_tree.specs.declared.literals.WrittenId.{WrittenId}
use Rattle.data_tree.specs.declared.literals.Lit.{Lit, out-Lit}
use Rattle.data_tree.specs.declared.literals.Lit.TheOpen.{Lit-F}
use Rattle.data_tree.specs.declared.tables.FieldLit.{FieldLit}
use Rattle.data_tree.specs.declared.tables.RecordLit.{RecordLit}
use Rattle.data_tree.specs.declared.tables.TableLit.{TableLit}
use Rattle.type_schema.specs.Schema.{FieldInfo, ModelInfo, Schema}
use Rattle.data_meaning.specs.Values.{Value, Flag, Num, Str, Id, Ids, Nothing, Just}
use Rattle.data_meaning.specs.Database.{Slot, Record, Table, Database, table_of, records_of}

abbrev pub IsIdLitOf : ℕ → Lit → Type 0
IsIdLitOf id l = (i : WrittenId) × (at : ℕ) × (i.number ≡ id) × (out-Lit l ≡ Lit-F.Id i at)

-- the value is written so; a set rising, as it stands
abbrev pub IsLitOf : Value → Lit → Type 0
IsLitOf (Flag b) l = (at : ℕ) × (out-Lit l ≡ Lit-F.Flag b at)
IsLitOf (Num n) l = (at : ℕ) × (out-Lit l ≡ Lit-F.Num n at)
IsLitOf (Str bytes) l = (at : ℕ) × (out-Lit l ≡ Lit-F.Str bytes at)
IsLitOf (Id id) l = IsIdLitOf id l
IsLitOf (Ids ids) l = (items : List Lit) × (at : ℕ) × AllZip IsIdLitOf ids items × (out-Lit l ≡ Lit-F.List items at)
IsLitOf Nothing l = (at : ℕ) × (out-Lit l ≡ Lit-F.NoneLit at)
IsLitOf (Just v) l = (inner : Lit) × (at : ℕ) × IsLitOf v inner × (out-Lit l ≡ Lit-F.SomeLit inner at)

-- the value of a field among slots
abbrev pub held : List Slot → ℕ → Value
held slots f = option_map_or (λ (slot : Slot). slot.value) (find (λ (slot : Slot). slot.field == f) slots) Nothing

pub record IsFieldLitOf (slots : List Slot) (f : FieldInfo) (w : FieldLit) : Type 0 where
  pub name : w.name.name ≡ f.name
  pub value : IsLitOf (held slots f.number) w.value

-- the fields of the model, in their order
pub record IsRecordLitOf (m : ModelInfo) (r : Record) (w : RecordLit) : Type 0 where
  pub id : w.id.number ≡ r.id
  pub fields : AllZip (IsFieldLitOf r.slots) m.fields w.fields

-- the table of the model, under its name
pub record IsTableLitOf (d : Database) (m : ModelInfo) (t : TableLit) : Type 0 where
  pub name : t.name.name ≡ m.name
  pub next : t.next.number ≡ option_map_or (λ (table : Table). table.next) (table_of d m.number) 1
  pub records : AllZip (IsRecordLitOf m) (records_of d m.number) t.records

-- a table for each model, in their order
abbrev pub AreTableLitsOf : Schema → Database → List TableLit → Type 0
AreTableLitsOf s d ts = AllZip (IsTableLitOf d) s.models ts
