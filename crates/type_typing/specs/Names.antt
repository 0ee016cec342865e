-- What a name names in a schema, and among variables.
use Rattle.std.specs.Prelude.{ℕ, List, Option, option_and_then, option_map, position, slice_get}
use Rattle.std.specs.List.{find}
use Rattle.std.specs.Str.{bytes_eq}
use Rattle.type_schema.specs.declared.types.TTy.{TTy}
use Rattle.type_schema.specs.declared.schemas.Schema as code_schema
use Rattle.type_schema.specs.Trees.{Name}
use Rattle.type_schema.specs.Schema.{StaticInfo, FieldInfo, ModelInfo, Schema, model_of}
use Rattle.type_schema.specs.SchemaViews.{schema_of}
use Rattle.type_typing.specs.declared.vars.Var.{Var}

-- the schema as plain data
unfoldable pub plain_of : code_schema.Schema → Schema
plain_of s = schema_of s

-- the number of the model
unfoldable pub model_named : Schema → Name → Option ℕ
model_named s name = option_map (λ (m : ModelInfo). m.number) (find (λ (m : ModelInfo). bytes_eq m.name name) s.models)

-- the number of the static
unfoldable pub static_named : Schema → Name → Option ℕ
static_named s name = option_map (λ (n : StaticInfo). n.number) (find (λ (n : StaticInfo). bytes_eq n.name name) s.statics)

-- the number and the type of the field of the model of this number
unfoldable pub field_named : Schema → ℕ → Name → Option (ℕ × TTy)
field_named s m name =
    option_and_then
    (λ (info : ModelInfo). option_map (λ (f : FieldInfo). (f.number, f.ty)) (find (λ (f : FieldInfo). bytes_eq f.name name) info.fields))
    (model_of s m)

-- the depth and the type of the variable
unfoldable pub var_named : List Var → Name → Option (ℕ × TTy)
var_named vars name =
    option_and_then
    (λ depth. option_map (λ (v : Var). (depth, v.ty)) (slice_get vars depth))
    (position (λ (v : Var). bytes_eq v.name name) vars)
