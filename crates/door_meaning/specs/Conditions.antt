-- The conditions of `find`.
use Rattle.std.specs.Prelude.{ℕ, Bool, true, false, not, ◌&&◌, List, [], ◌∷◌, map, Option, None, Result, Ok}
use Rattle.std.specs.List.{filter, list_all}
use Rattle.std.specs.Option.{option_map_or}
use Rattle.text_tree.specs.declared.exprs.CmpOp.TheVariants.{Eq, Ne, Lt, Le, Gt, Ge}
use Rattle.text_tree.specs.declared.exprs.FilterOp.{FilterOp}
use Rattle.text_tree.specs.declared.exprs.FilterOp.TheVariants.{Cmp, Has}
use Rattle.data_tree.specs.declared.literals.Lit.{Lit, out-Lit}
use Rattle.type_schema.specs.declared.types.TBase.{TBase}
use Rattle.type_schema.specs.declared.types.TBase.TheVariants as base
use Rattle.type_schema.specs.declared.types.TTy.{TTy}
use Rattle.type_schema.specs.declared.types.TTy.TheVariants.{Plain, Set, Opt}
use Rattle.type_schema.specs.Trees.{Policy}
use Rattle.type_schema.specs.Schema.{FieldInfo, ModelInfo}
use Rattle.data_meaning.specs.declared.principals.Principal.{Principal}
use Rattle.data_meaning.specs.Values.{Value, Flag, Num, Str, Id, Ids, Nothing, Just}
use Rattle.data_meaning.specs.Database.{Record, Database, field_at, records_of}
use Rattle.data_meaning.specs.Meaning.{allows, are_equal, compares, passes, taken_apart}
use Rattle.data_judge.specs.Named.{base_named, typed_named}
use Rattle.door_requests.specs.declared.requests.Condition.{Condition}
use Rattle.door_meaning.specs.Names.{field_in_at}
use Rattle.door_meaning.specs.Orders.{finds, goes}
use Rattle.door_meaning.specs.Replies.{Reply, WrongShape}

-- what a record must hold in a field
pub record Test : Type 0 where
  pub field : FieldInfo
  pub op : FilterOp
  pub value : Value

-- ---- which values a condition may have

-- values of any type but sets are compared for equality, and numbers by their order
abbrev pub equality_value : TTy → Lit → Option Value
equality_value (Plain b) l = typed_named None (Plain b) (out-Lit l)
equality_value (Set m) l = None
equality_value (Opt b) l = typed_named None (Opt b) (out-Lit l)

abbrev pub base_order_value : TBase → Lit → Option Value
base_order_value base.Bool l = None
base_order_value base.Int l = base_named None base.Int (out-Lit l)
base_order_value base.Text l = None
base_order_value (base.Id m) l = None

abbrev pub order_value : TTy → Lit → Option Value
order_value (Plain b) l = base_order_value b l
order_value (Set m) l = None
order_value (Opt b) l = None

-- the id that a set may have
abbrev pub item_value : TTy → Lit → Option Value
item_value (Plain b) l = None
item_value (Set m) l = base_named None (base.Id m) (out-Lit l)
item_value (Opt b) l = None

abbrev pub tested_value : FilterOp → TTy → Lit → Option Value
tested_value (Cmp Eq) t l = equality_value t l
tested_value (Cmp Ne) t l = equality_value t l
tested_value (Cmp Lt) t l = order_value t l
tested_value (Cmp Le) t l = order_value t l
tested_value (Cmp Gt) t l = order_value t l
tested_value (Cmp Ge) t l = order_value t l
tested_value Has t l = item_value t l

-- ---- the tests that conditions are

-- the fields of the names: the first name of no field is unknown
abbrev pub fields_named : ModelInfo → List Condition → Result (List FieldInfo) Reply
fields_named m [] = Ok []
fields_named m (c ∷ cs) =
    goes (field_in_at m c.field) (λ (f : FieldInfo). goes (fields_named m cs) (λ fields. Ok (f ∷ fields)))

-- the tests, of which the first whose value does not fit is of a wrong shape
abbrev pub tests_of : List FieldInfo → List Condition → Result (List Test) Reply
tests_of [] cs = Ok []
tests_of (f ∷ fields) [] = Ok []
tests_of (f ∷ fields) (c ∷ cs) =
    goes (finds (tested_value c.op f.ty c.value) (WrongShape f.name))
    (λ v. goes (tests_of fields cs) (λ tests. Ok (record { field = f; op = c.op; value = v } ∷ tests)))

-- ---- which records meet them

abbrev pub is_none : Value → Bool
is_none (Flag b) = false
is_none (Num n) = false
is_none (Str bytes) = false
is_none (Id id) = false
is_none (Ids ids) = false
is_none Nothing = true
is_none (Just v) = false

-- options are equal where both are nothing, or both hold equal values
abbrev pub same_value : Value → Value → Bool
same_value (Flag b) w = are_equal (Flag b) w
same_value (Num n) w = are_equal (Num n) w
same_value (Str bytes) w = are_equal (Str bytes) w
same_value (Id id) w = are_equal (Id id) w
same_value (Ids ids) w = are_equal (Ids ids) w
same_value Nothing w = is_none w
same_value (Just v) w = taken_apart w false (are_equal v)

abbrev pub meets : FilterOp → Value → Value → Bool
meets (Cmp Eq) held v = same_value held v
meets (Cmp Ne) held v = not (same_value held v)
meets (Cmp Lt) held v = compares Lt held v
meets (Cmp Le) held v = compares Le held v
meets (Cmp Gt) held v = compares Gt held v
meets (Cmp Ge) held v = compares Ge held v
meets Has held v = passes Has held v

-- whether the policy allows the principal of a session; where the session has none, it allows nobody
abbrev pub may : Database → Policy → ℕ → Option Principal → Bool
may d policy id who = option_map_or (allows d policy id) who false

-- the record holds what the test asks, in a field that the principal may read there
abbrev pub is_shown : Database → ℕ → Option Principal → ℕ → Test → Bool
is_shown d m who id t = meets t.op (field_at d m id t.field.number) t.value && may d t.field.read id who

-- the ids of the records that meet each test, by rising id
abbrev pub found_ids : Database → ℕ → Option Principal → List Test → List ℕ
found_ids d m who tests = filter (λ id. list_all (is_shown d m who id) tests) (map (λ (r : Record). r.id) (records_of d m))
