-- What names in requests name.
use Rattle.std.specs.Prelude.{ℕ, Bool, true, List, Option, is_some, Result, Ok}
use Rattle.std.specs.List.{find}
use Rattle.std.specs.Str.{bytes_eq}
use Rattle.text_tree.specs.declared.named.Named.{Named}
use Rattle.type_schema.specs.Schema.{StaticInfo, FieldInfo, ModelInfo, Schema, is_principal_model, model_of, static_of}
use Rattle.data_meaning.specs.declared.principals.Principal.{Principal}
use Rattle.data_meaning.specs.declared.principals.Principal.TheVariants.{Static, Rec}
use Rattle.data_judge.specs.Faults.{field_named, model_named}
use Rattle.door_requests.specs.declared.requests.Who.{Who}
use Rattle.door_requests.specs.declared.requests.Who.TheVariants as who
use Rattle.door_meaning.specs.Orders.{finds, goes}
use Rattle.door_meaning.specs.Replies.{Reply, Unknown}

abbrev pub static_named : Schema → List ℕ → Option StaticInfo
static_named s name = find (λ (info : StaticInfo). bytes_eq info.name name) s.statics

-- the model of the name
abbrev pub model_at : Schema → Named → Result ModelInfo Reply
model_at s model = finds (model_named s.models model.name) (Unknown model.at)

-- the field of the model
abbrev pub field_in_at : ModelInfo → Named → Result FieldInfo Reply
field_in_at m field = finds (field_named m.fields field.name) (Unknown field.at)

-- the static of the name, or a record of the model of the name: it need not be there, and the model need not be marked
abbrev pub principal_named : Schema → Who → Result Principal Reply
principal_named s (who.Static name) = goes (finds (static_named s name.name) (Unknown name.at)) (λ (info : StaticInfo). Ok (Static info.number))
principal_named s (who.Record model id) = goes (model_at s model) (λ (info : ModelInfo). Ok (Rec info.number id.number))

-- a static, or of a model that is marked as principal
abbrev pub is_marked : Schema → Principal → Bool
is_marked s (Static n) = true
is_marked s (Rec m id) = is_principal_model s m

-- the static or the model of the principal is one of the schema
abbrev pub stands_in : Schema → Principal → Bool
stands_in s (Static n) = is_some (static_of s n)
stands_in s (Rec m id) = is_some (model_of s m)
