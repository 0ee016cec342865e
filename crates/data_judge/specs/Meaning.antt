-- What a database's text writes.
use Rattle.std.specs.Prelude.{◌≡◌, ℕ, List, [], ◌∷◌, Option, None, Some, map}
use Rattle.std.specs.List.{find, fold}
use Rattle.std.specs.List.Sorted.{IsPermutation, IsStrictlyIncreasing}
use Rattle.std.specs.BTreeSet.{insert_key}
use Rattle.std.specs.Option.{option_map_or}
use Rattle.std.specs.Ordering.{nat_cmp}
use Rattle.std.specs.Str.{bytes_eq}
use Rattle.data_tree.specs.declared.literals.WrittenId.{WrittenId}
use Rattle.data_tree.specs.declared.literals.Lit.{Lit, out-Lit}
use Rattle.data_tree.specs.declared.literals.Lit.TheOpen.{Lit-F}
use Rattle.data_tree.specs.declared.tables.FieldLit.{FieldLit}
use Rattle.data_tree.specs.declared.tables.RecordLit.{RecordLit}
use Rattle.data_tree.specs.declared.tables.TableLit.{TableLit}
use Rattle.data_tree.specs.Literals.{Layer}
use Rattle.type_schema.specs.Schema.{FieldInfo, ModelInfo}
use Rattle.data_meaning.specs.Values.{Value, Flag, Num, Str, Id, Ids, Nothing, Just}
use Rattle.data_meaning.specs.Database.{Slot, Record, Table, Database}

-- ---- values

-- the id that is written, where one is
abbrev pub layer_id : Layer → Option WrittenId
layer_id (Lit-F.Flag b at) = None
layer_id (Lit-F.Num n at) = None
layer_id (Lit-F.Str text at) = None
layer_id (Lit-F.Id id at) = Some id
layer_id (Lit-F.SelfId at) = None
layer_id (Lit-F.NoneLit at) = None
layer_id (Lit-F.SomeLit inner at) = None
layer_id (Lit-F.List items at) = None

abbrev pub id_in : Lit → Option WrittenId
id_in l = layer_id (out-Lit l)

-- one more number of a set of numbers, which rise
abbrev pub with_number : List ℕ → ℕ → List ℕ
with_number numbers n = insert_key nat_cmp numbers n

-- the set with the id of an item
abbrev pub with_item : List ℕ → Lit → List ℕ
with_item numbers l = option_map_or (λ (i : WrittenId). with_number numbers i.number) (id_in l) numbers

-- the set of the ids of items
abbrev pub ids_of : List Lit → List ℕ
ids_of items = fold with_item [] items

-- what is written without `some`; an option does not stand in an option
abbrev pub plain_value : Layer → Value
plain_value (Lit-F.Flag b at) = Flag b
plain_value (Lit-F.Num n at) = Num n
plain_value (Lit-F.Str text at) = Str text
plain_value (Lit-F.Id id at) = Id id.number
plain_value (Lit-F.SelfId at) = Nothing
plain_value (Lit-F.NoneLit at) = Nothing
plain_value (Lit-F.SomeLit inner at) = Nothing
plain_value (Lit-F.List items at) = Ids (ids_of items)

abbrev pub layer_value : Layer → Value
layer_value (Lit-F.Flag b at) = Flag b
layer_value (Lit-F.Num n at) = Num n
layer_value (Lit-F.Str text at) = Str text
layer_value (Lit-F.Id id at) = Id id.number
layer_value (Lit-F.SelfId at) = Nothing
layer_value (Lit-F.NoneLit at) = Nothing
layer_value (Lit-F.SomeLit inner at) = Just (plain_value (out-Lit inner))
layer_value (Lit-F.List items at) = Ids (ids_of items)

-- the value that is written
abbrev pub value_of : Lit → Value
value_of l = layer_value (out-Lit l)

-- ---- records and tables

-- the field of this name among those that are written
abbrev pub written : List FieldLit → FieldInfo → Option FieldLit
written ws f = find (λ (w : FieldLit). bytes_eq w.name.name f.name) ws

abbrev pub slot_of : List FieldLit → FieldInfo → Slot
slot_of ws f = record { field = f.number; value = option_map_or (λ (w : FieldLit). value_of w.value) (written ws f) Nothing }

-- the record that is written, of a model with these fields
abbrev pub record_of : List FieldInfo → RecordLit → Record
record_of fields r = record { id = r.id.number; slots = map (slot_of r.fields) fields }

-- the table that is written for the model
abbrev pub table_for : List TableLit → ModelInfo → Option TableLit
table_for ts m = find (λ (t : TableLit). bytes_eq t.name.name m.name) ts

-- a model that is not named is empty, and its first record gets the id 1
abbrev pub next_for : List TableLit → ModelInfo → ℕ
next_for ts m = option_map_or (λ (t : TableLit). t.next.number) (table_for ts m) 1

abbrev pub records_for : List TableLit → ModelInfo → List Record
records_for ts m = option_map_or (λ (t : TableLit). map (record_of m.fields) t.records) (table_for ts m) []

-- The table holds the records that are written for the model, by rising id.
pub record Holds (ts : List TableLit) (m : ModelInfo) (t : Table) : Type 0 where
  pub model : t.model ≡ m.number
  pub next : t.next ≡ next_for ts m
  pub records : IsPermutation (records_for ts m) t.records
  pub rising : IsStrictlyIncreasing (map (λ (r : Record). r.id) t.records)

-- a table for each model, in their order, with what is written for it
abbrev pub AreHeld : List TableLit → List ModelInfo → Database → Type 0
AreHeld ts [] [] = Unit {0}
AreHeld ts [] (t ∷ d) = ⊥
AreHeld ts (m ∷ models) [] = ⊥
AreHeld ts (m ∷ models) (t ∷ d) = Holds ts m t × AreHeld ts models d
