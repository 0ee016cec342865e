-- The names of what has a number.
use Rattle.std.specs.Prelude.{ℕ, []}
use Rattle.std.specs.Option.{option_map_or}
use Rattle.text_tree.specs.declared.named.Named.{Named}
use Rattle.type_schema.specs.Trees.{Name}
use Rattle.type_schema.specs.Schema.{StaticInfo, FieldInfo, ModelInfo, Schema, field_of, model_of, static_of}

pub record Names : Type 0 where
  pub model : ℕ → Name
  pub field : (model field : ℕ) → Name
  pub static : ℕ → Name

-- in a schema; what is not there has the empty name
abbrev pub names_in : Schema → Names
names_in s = record {
  model = λ m. option_map_or (λ (info : ModelInfo). info.name) (model_of s m) [];
  field = λ m f. option_map_or (λ (info : FieldInfo). info.name) (field_of s m f) [];
  static = λ n. option_map_or (λ (info : StaticInfo). info.name) (static_of s n) [];
}

-- a name in a tree; all offsets are 0
abbrev pub named : Name → Named
named name = record { name = name; at = 0 }
