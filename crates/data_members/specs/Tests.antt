-- The tests of filters.
use Rattle.std.specs.Prelude.{ℕ, ◌==◌, Bool, List}
use Rattle.std.specs.List.{find}
use Rattle.std.specs.Option.{option_map_or}
use Rattle.text_tree.specs.declared.exprs.CmpOp.TheVariants.{Eq}
use Rattle.text_tree.specs.declared.exprs.FilterOp.{FilterOp}
use Rattle.text_tree.specs.declared.exprs.FilterOp.TheVariants.{Cmp}
use Rattle.type_schema.specs.Trees.{Filters, no_filters, filter_and}
use Rattle.data_meaning.specs.Values.{Value, Nothing}
use Rattle.data_meaning.specs.Database.{Slot}
use Rattle.data_records.specs.Views.{value_data}
use Rattle.data_meaning.specs.Meaning.{passes}
use Rattle.data_members.specs.declared.finding.Test.{Test}

-- what the field holds; where there is no such field, nothing
abbrev pub held_in : List Slot → ℕ → Value
held_in slots f = option_map_or (λ (slot : Slot). slot.value) (find (λ (slot : Slot). slot.field == f) slots) Nothing

-- whether what the field holds passes
abbrev pub passes_in : List Slot → Test → Bool
passes_in slots t = passes t.op (held_in slots t.field) (value_data t.with)

-- how the first filter compares; of none, for equality
abbrev pub first_op : Filters → FilterOp
first_op no_filters = Cmp Eq
first_op (filter_and f op e rest) = op
