-- The plain data that the values of the code stand for, and parts of plain data.
use Rattle.std.specs.Prelude.{ℕ, List, map, Option, Some, None}
use Rattle.data_records.specs.declared.value.Value as code_value
use Rattle.data_records.specs.Views.{value_data}
use Rattle.type_schema.specs.Trees.{Expr, nothing, Filters, no_filters, filter_and}
use Rattle.data_meaning.specs.Values.{Value, Flag, Num, Str, Id, Ids, Nothing, Just}
use Rattle.data_members.specs.declared.seen.Seen as code_seen
use Rattle.data_members.specs.declared.seen.Seen.TheVariants.{Held, Made}

-- the values of the variables, the outermost first
abbrev pub env_data : List code_value.Value → List Value
env_data env = map value_data env

abbrev pub seen_data : code_seen.Seen → Value
seen_data (Held v) = value_data v.now
seen_data (Made v) = value_data v

-- what stands in an option
abbrev pub content_of : Value → Option Value
content_of (Flag b) = None
content_of (Num n) = None
content_of (Str bytes) = None
content_of (Id id) = None
content_of (Ids ids) = None
content_of Nothing = None
content_of (Just v) = Some v

-- the field and the value of the first filter; of none, 0 and nothing
abbrev pub first_field : Filters → ℕ
first_field no_filters = 0
first_field (filter_and f op e rest) = f

abbrev pub first_value : Filters → Expr
first_value no_filters = nothing
first_value (filter_and f op e rest) = e
