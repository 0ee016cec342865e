-- The tests that the conditions of `find` are, on records of the code.
use Rattle.std.specs.Prelude.{◌≡◌, ℕ, Bool, true, ◌&&◌, List, Option, Result, Ok}
use Rattle.std.specs.List.{list_all}
use Rattle.text_tree.specs.declared.exprs.CmpOp.TheVariants.{Eq}
use Rattle.text_tree.specs.declared.exprs.FilterOp.TheVariants.{Cmp}
use Rattle.data_meaning.specs.declared.principals.Principal.{Principal}
use Rattle.data_meaning.specs.Database.{Database, Record, Slot, has_record}
use Rattle.data_meaning.specs.Values.{Value, Id}
use Rattle.data_meaning.specs.Meaning.{are_equal}
use Rattle.data_members.specs.Tests.{held_in}
use Rattle.data_records.specs.Views.{value_data}
use Rattle.door_requests.specs.declared.requests.Condition.{Condition}
use Rattle.door_meaning.specs.Conditions.{Test, is_shown, may, meets, tested_value}
use Rattle.door_meaning.specs.Orders.{finds, goes}
use Rattle.door_meaning.specs.Replies.{Reply, WrongShape}
use Rattle.door_judge.specs.declared.conditions.Test as code
use Rattle.type_schema.specs.Schema.{FieldInfo}
use Rattle.type_schema.specs.SchemaViews.{field_info_of}

-- the plain test that one of the code stands for
abbrev pub test_data : code.Test → Test
test_data t = record { field = field_info_of t.field.now; op = t.op; value = value_data t.value }

-- the test that a condition on the field is
abbrev pub test_named : FieldInfo → Condition → Result Test Reply
test_named f c = goes (finds (tested_value c.op f.ty c.value) (WrongShape f.name)) (λ v. Ok (record { field = f; op = c.op; value = v }))

-- ---- at one record

abbrev pub meets_in : List Slot → Test → Bool
meets_in slots t = meets t.op (held_in slots t.field.number) t.value

-- the record holds what each test asks
abbrev pub meets_all : List Test → List Slot → Bool
meets_all tests slots = list_all (meets_in slots) tests

-- the principal may read the field of each test at the record
abbrev pub may_read_all : Database → Option Principal → List Test → ℕ → Bool
may_read_all d who tests id = list_all (λ (t : Test). may d t.field.read id who) tests

abbrev pub is_shown_at : Database → Option Principal → List Test → Record → Bool
is_shown_at d who tests r = meets_all tests r.slots && may_read_all d who tests r.id

-- ---- at the record of an id

-- the record is there, and holds what each test asks, in a field that the principal may read there
abbrev pub is_there_and_shown : Database → ℕ → Option Principal → List Test → ℕ → Bool
is_there_and_shown d m who tests id = has_record d m id && list_all (is_shown d m who id) tests

-- Where fields hold what each test asks, this field holds the id.
abbrev pub IsNeeded : List Test → (field id : ℕ) → Type 0
IsNeeded tests f id = (held : ℕ → Value) → list_all (λ (t : Test). meets t.op (held t.field.number) t.value) tests ≡ true → are_equal (held f) (Id id) ≡ true

-- The test is an equality of this field of references with this id.
pub record IsEquality (t : Test) (f id : ℕ) : Type 0 where
  pub op : t.op ≡ Cmp Eq
  pub value : t.value ≡ Id id
  pub field : t.field.number ≡ f
