-- Values and rows that literals name, of a record that is made or changed. `self` is the id of that record, and stands in fields of ids of its
-- own model.
use Rattle.std.specs.Prelude.{◌≡◌, ℕ, ◌==◌, List, [], ◌∷◌, ◌++◌, map, Option, None, Some, Result, Ok, Err, if◌then◌else◌, option_and_then, option_map, position, is_none}
use Rattle.std.specs.List.{list_any}
use Rattle.std.specs.Option.{option_map_or}
use Rattle.std.specs.Str.{bytes_eq}
use Rattle.data_tree.specs.declared.literals.Lit.{Lit, out-Lit}
use Rattle.data_tree.specs.declared.literals.Lit.TheOpen.{Lit-F}
use Rattle.data_tree.specs.declared.tables.FieldLit.{FieldLit}
use Rattle.data_tree.specs.Literals.{Layer}
use Rattle.type_schema.specs.declared.types.TBase.{TBase}
use Rattle.type_schema.specs.declared.types.TBase.TheVariants as base
use Rattle.type_schema.specs.declared.types.TTy.{TTy}
use Rattle.type_schema.specs.declared.types.TTy.TheVariants.{Plain, Set, Opt}
use Rattle.type_schema.specs.Schema.{FieldInfo, ModelInfo}
use Rattle.data_meaning.specs.Values.{Value, Id, Ids, Nothing, Just}
use Rattle.data_records.specs.declared.value.Value as code
use Rattle.data_records.specs.Views.{value_data}
use Rattle.data_records.specs.Shape as shape
use Rattle.data_judge.specs.declared.lit_err.LitErr.{LitErr}
use Rattle.data_judge.specs.declared.lit_err.LitErr.TheVariants as err
use Rattle.data_judge.specs.Faults.{is_flag, is_number, is_text, has, field_named}
use Rattle.data_judge.specs.Meaning.{plain_value, with_number}

-- ---- values

-- what `self` is in a field of the type, of a record of the model
abbrev pub own_in : ℕ → Option ℕ → TTy → Option ℕ
own_in m own t = option_and_then (λ n. if n == m then own else None) (shape.model_named t)

-- the id that is named, where one is
abbrev pub id_named : Option ℕ → Layer → Option ℕ
id_named own (Lit-F.Flag b at) = None
id_named own (Lit-F.Num n at) = None
id_named own (Lit-F.Str text at) = None
id_named own (Lit-F.Id id at) = Some id.number
id_named own (Lit-F.SelfId at) = own
id_named own (Lit-F.NoneLit at) = None
id_named own (Lit-F.SomeLit inner at) = None
id_named own (Lit-F.List items at) = None

abbrev pub base_named : Option ℕ → TBase → Layer → Option Value
base_named own base.Bool l = if is_flag l then Some (plain_value l) else None
base_named own base.Int l = if is_number l then Some (plain_value l) else None
base_named own base.Text l = if is_text l then Some (plain_value l) else None
base_named own (base.Id m) l = option_map Id (id_named own l)

-- the set of ids behind others: each item names one, and none is named again
abbrev pub ids_named : Option ℕ → List ℕ → List Lit → Option (List ℕ)
ids_named own seen [] = Some seen
ids_named own seen (l ∷ items) =
    option_and_then (λ n. if has seen n then None else ids_named own (with_number seen n) items) (id_named own (out-Lit l))

abbrev pub set_named : Option ℕ → Layer → Option Value
set_named own (Lit-F.Flag b at) = None
set_named own (Lit-F.Num n at) = None
set_named own (Lit-F.Str text at) = None
set_named own (Lit-F.Id id at) = None
set_named own (Lit-F.SelfId at) = None
set_named own (Lit-F.NoneLit at) = None
set_named own (Lit-F.SomeLit inner at) = None
set_named own (Lit-F.List items at) = option_map Ids (ids_named own [] items)

abbrev pub option_named : Option ℕ → TBase → Layer → Option Value
option_named own b (Lit-F.Flag value at) = None
option_named own b (Lit-F.Num n at) = None
option_named own b (Lit-F.Str text at) = None
option_named own b (Lit-F.Id id at) = None
option_named own b (Lit-F.SelfId at) = None
option_named own b (Lit-F.NoneLit at) = Some Nothing
option_named own b (Lit-F.SomeLit inner at) = option_map Just (base_named own b (out-Lit inner))
option_named own b (Lit-F.List items at) = None

abbrev pub typed_named : Option ℕ → TTy → Layer → Option Value
typed_named own (Plain b) l = base_named own b l
typed_named own (Set m) l = set_named own l
typed_named own (Opt b) l = option_named own b l

-- the value of the type that is named, where one is, for a record of the model
abbrev pub value_named : ℕ → Option ℕ → TTy → Lit → Option Value
value_named m own t l = typed_named (own_in m own t) t (out-Lit l)

-- ---- rows

-- the one field of the name that is given; nothing where there is none, or more
abbrev pub one_given : List ℕ → List FieldLit → Option FieldLit
one_given name [] = None
one_given name (w ∷ ws) =
    if bytes_eq w.name.name name then (if list_any (λ (v : FieldLit). bytes_eq v.name.name name) ws then None else Some w) else one_given name ws

abbrev pub field_value : ℕ → ℕ → List FieldLit → FieldInfo → Option Value
field_value m own ws f = option_and_then (λ (w : FieldLit). value_named m (Some own) f.ty w.value) (one_given f.name ws)

-- the values of fields, or the number of the first that has none
abbrev pub put_before : Value → Result (List Value) ℕ → Result (List Value) ℕ
put_before v (Ok row) = Ok (v ∷ row)
put_before v (Err f) = Err f

abbrev pub row_named : ℕ → ℕ → List FieldLit → List FieldInfo → Result (List Value) ℕ
row_named m own ws [] = Ok []
row_named m own ws (f ∷ fields) = option_map_or (λ v. put_before v (row_named m own ws fields)) (field_value m own ws f) (Err f.number)

-- the first name, counted from 0, that is of no field
abbrev pub unknown_at : List FieldInfo → List FieldLit → Option ℕ
unknown_at fields ws = position (λ (w : FieldLit). is_none (field_named fields w.name.name)) ws

-- ---- what is answered

abbrev pub GivesValue : ℕ → Option ℕ → FieldInfo → Lit → Result code.Value LitErr → Type 0
GivesValue m own f l (Ok v) = value_named m own f.ty l ≡ Some (value_data v)
GivesValue m own f l (Err (err.Unknown place)) = ⊥
GivesValue m own f l (Err (err.WrongShape n)) = (value_named m own f.ty l ≡ None) × (n ≡ f.number)
GivesValue m own f l (Err err.OutOfMemory) = Unit {0}

-- the values of fields behind others
abbrev pub Adds : Result (List Value) ℕ → List Value → Result (Unit {0}) LitErr → List Value → Type 0
Adds named before (Ok done) after = (row : List Value) × (named ≡ Ok row) × (after ≡ before ++ row)
Adds named before (Err (err.Unknown place)) after = ⊥
Adds named before (Err (err.WrongShape n)) after = named ≡ Err n
Adds named before (Err err.OutOfMemory) after = Unit {0}

-- A name of no field comes first, then the first field without a value.
abbrev pub GivesRow : ModelInfo → ℕ → List FieldLit → Result (List code.Value) LitErr → Type 0
GivesRow info own ws (Ok row) = (unknown_at info.fields ws ≡ None) × (row_named info.number own ws info.fields ≡ Ok (map value_data row))
GivesRow info own ws (Err (err.Unknown place)) = unknown_at info.fields ws ≡ Some place
GivesRow info own ws (Err (err.WrongShape n)) = (unknown_at info.fields ws ≡ None) × (row_named info.number own ws info.fields ≡ Err n)
GivesRow info own ws (Err err.OutOfMemory) = Unit {0}
