-- The first part of a database's text, in reading order, that breaks a rule.
use Rattle.std.specs.Prelude.{ℕ, ◌==◌, ◌+◌, nat_le, nat_lt, List, [], Option, None, Some, Bool, true, false, ◌&&◌, if◌then◌else◌}
use Rattle.std.specs.List.{find, list_any, list_all}
use Rattle.std.specs.Option.{option_or, option_map_or}
use Rattle.std.specs.Str.{bytes_eq}
use Rattle.data_tree.specs.declared.literals.WrittenId.{WrittenId}
use Rattle.data_tree.specs.declared.literals.Lit.{Lit, out-Lit}
use Rattle.data_tree.specs.declared.literals.Lit.TheOpen.{Lit-F}
use Rattle.data_tree.specs.declared.tables.FieldLit.{FieldLit}
use Rattle.data_tree.specs.declared.tables.RecordLit.{RecordLit}
use Rattle.data_tree.specs.declared.tables.TableLit.{TableLit}
use Rattle.data_tree.specs.Literals.{Layer, lit_at}
use Rattle.type_schema.specs.declared.types.TBase.{TBase}
use Rattle.type_schema.specs.declared.types.TBase.TheVariants as base
use Rattle.type_schema.specs.declared.types.TTy.{TTy}
use Rattle.type_schema.specs.declared.types.TTy.TheVariants.{Plain, Set, Opt}
use Rattle.type_schema.specs.Schema.{FieldInfo, ModelInfo, Schema}
use Rattle.data_meaning.specs.Values.{last_id}
use Rattle.data_judge.specs.declared.fault.Fault.{Fault}
use Rattle.data_judge.specs.declared.fault.Fault.TheVariants as fault
use Rattle.data_judge.specs.First.{first_behind, pushed}
use Rattle.data_judge.specs.Meaning.{id_in, with_number, with_item}

-- ---- values

abbrev pub is_flag : Layer → Bool
is_flag (Lit-F.Flag b at) = true
is_flag (Lit-F.Num n at) = false
is_flag (Lit-F.Str text at) = false
is_flag (Lit-F.Id id at) = false
is_flag (Lit-F.SelfId at) = false
is_flag (Lit-F.NoneLit at) = false
is_flag (Lit-F.SomeLit inner at) = false
is_flag (Lit-F.List items at) = false

abbrev pub is_number : Layer → Bool
is_number (Lit-F.Flag b at) = false
is_number (Lit-F.Num n at) = true
is_number (Lit-F.Str text at) = false
is_number (Lit-F.Id id at) = false
is_number (Lit-F.SelfId at) = false
is_number (Lit-F.NoneLit at) = false
is_number (Lit-F.SomeLit inner at) = false
is_number (Lit-F.List items at) = false

abbrev pub is_text : Layer → Bool
is_text (Lit-F.Flag b at) = false
is_text (Lit-F.Num n at) = false
is_text (Lit-F.Str text at) = true
is_text (Lit-F.Id id at) = false
is_text (Lit-F.SelfId at) = false
is_text (Lit-F.NoneLit at) = false
is_text (Lit-F.SomeLit inner at) = false
is_text (Lit-F.List items at) = false

abbrev pub is_id : Layer → Bool
is_id (Lit-F.Flag b at) = false
is_id (Lit-F.Num n at) = false
is_id (Lit-F.Str text at) = false
is_id (Lit-F.Id id at) = true
is_id (Lit-F.SelfId at) = false
is_id (Lit-F.NoneLit at) = false
is_id (Lit-F.SomeLit inner at) = false
is_id (Lit-F.List items at) = false

-- whether a value of the base type is written; an id may be any number
abbrev pub is_base : TBase → Layer → Bool
is_base base.Bool l = is_flag l
is_base base.Int l = is_number l
is_base base.Text l = is_text l
is_base (base.Id m) l = is_id l

abbrev pub base_fault : TBase → Lit → Option Fault
base_fault b l = if is_base b (out-Lit l) then None else Some (fault.WrongShape (lit_at l))

abbrev pub has : List ℕ → ℕ → Bool
has numbers n = list_any (λ m. m == n) numbers

-- an item of a set of ids, behind items with these
abbrev pub item_fault : List ℕ → Lit → Option Fault
item_fault seen l =
    option_map_or (λ (i : WrittenId). if has seen i.number then Some (fault.Twice i.at) else None) (id_in l) (Some (fault.WrongShape (lit_at l)))

abbrev pub items_fault : List Lit → Option Fault
items_fault items = first_behind item_fault with_item [] items

abbrev pub set_fault : Layer → Option Fault
set_fault (Lit-F.Flag b at) = Some (fault.WrongShape at)
set_fault (Lit-F.Num n at) = Some (fault.WrongShape at)
set_fault (Lit-F.Str text at) = Some (fault.WrongShape at)
set_fault (Lit-F.Id id at) = Some (fault.WrongShape at)
set_fault (Lit-F.SelfId at) = Some (fault.WrongShape at)
set_fault (Lit-F.NoneLit at) = Some (fault.WrongShape at)
set_fault (Lit-F.SomeLit inner at) = Some (fault.WrongShape at)
set_fault (Lit-F.List items at) = items_fault items

abbrev pub option_fault : TBase → Layer → Option Fault
option_fault b (Lit-F.Flag value at) = Some (fault.WrongShape at)
option_fault b (Lit-F.Num n at) = Some (fault.WrongShape at)
option_fault b (Lit-F.Str text at) = Some (fault.WrongShape at)
option_fault b (Lit-F.Id id at) = Some (fault.WrongShape at)
option_fault b (Lit-F.SelfId at) = Some (fault.WrongShape at)
option_fault b (Lit-F.NoneLit at) = None
option_fault b (Lit-F.SomeLit inner at) = base_fault b inner
option_fault b (Lit-F.List items at) = Some (fault.WrongShape at)

-- what is written for a field of the type
abbrev pub value_fault : TTy → Lit → Option Fault
value_fault (Plain b) l = base_fault b l
value_fault (Set m) l = set_fault (out-Lit l)
value_fault (Opt b) l = option_fault b (out-Lit l)

-- ---- records

-- the field of a model that a name names
abbrev pub field_named : List FieldInfo → List ℕ → Option FieldInfo
field_named fields name = find (λ (f : FieldInfo). bytes_eq f.name name) fields

-- a field behind others of the record: first its name, then its value
abbrev pub field_fault : List FieldInfo → List FieldLit → FieldLit → Option Fault
field_fault fields before w =
    option_map_or (λ (f : FieldInfo). if list_any (λ (v : FieldLit). bytes_eq v.name.name w.name.name) before then Some (fault.Twice w.name.at) else value_fault f.ty w.value)
    (field_named fields w.name.name) (Some (fault.Unknown w.name.at))

-- whether each field of the model is given
abbrev pub are_given : List FieldInfo → List FieldLit → Bool
are_given fields ws = list_all (λ (f : FieldInfo). list_any (λ (w : FieldLit). bytes_eq w.name.name f.name) ws) fields

-- the fields of a record, and the brace that ends it
abbrev pub row_fault : List FieldInfo → List FieldLit → ℕ → Option Fault
row_fault fields ws close =
    option_or (first_behind (field_fault fields) pushed [] ws) (if are_given fields ws then None else Some (fault.Absent close))

-- a record of a table with this next id, behind records with these ids
abbrev pub record_fault : List FieldInfo → ℕ → List ℕ → RecordLit → Option Fault
record_fault fields next seen r =
    if has seen r.id.number then Some (fault.Twice r.id.at)
    else (if nat_le 1 r.id.number && nat_lt r.id.number next then row_fault fields r.fields r.«end» else Some (fault.BadId r.id.at))

-- the ids with that of a record
abbrev pub with_record : List ℕ → RecordLit → List ℕ
with_record seen r = with_number seen r.id.number

abbrev pub records_fault : List FieldInfo → ℕ → List RecordLit → Option Fault
records_fault fields next rs = first_behind (record_fault fields next) with_record [] rs

-- ---- tables

-- the model that a name names
abbrev pub model_named : List ModelInfo → List ℕ → Option ModelInfo
model_named models name = find (λ (m : ModelInfo). bytes_eq m.name name) models

-- the next id, and the records
abbrev pub body_fault : List FieldInfo → TableLit → Option Fault
body_fault fields t =
    if nat_le 1 t.next.number && nat_le t.next.number (last_id + 1) then records_fault fields t.next.number t.records
    else Some (fault.BadId t.next.at)

-- a table behind others
abbrev pub table_fault : List ModelInfo → List TableLit → TableLit → Option Fault
table_fault models before t =
    option_map_or (λ (m : ModelInfo). if list_any (λ (u : TableLit). bytes_eq u.name.name t.name.name) before then Some (fault.Twice t.name.at) else body_fault m.fields t)
    (model_named models t.name.name) (Some (fault.Unknown t.name.at))

-- the first part that breaks a rule of names, shapes and ids
abbrev pub rule_fault : Schema → List TableLit → Option Fault
rule_fault s ts = first_behind (table_fault s.models) pushed [] ts
