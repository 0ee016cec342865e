-- The words that speak of typed schemas and scripts.
pub use Rattle.type_schema.specs.Trees.{Name, Expr, SetExpr, Items, Filters, Policy, Init}
pub use Rattle.type_schema.specs.Schema.{StaticInfo, FieldInfo, ModelInfo, Added, Schema, model_of, field_of, static_of, type_of, known_type, policy_in}
pub use Rattle.type_schema.specs.Typing.{IsExpr, IsSet, IsPolicy, IsInit, IsTyped}
pub use Rattle.type_schema.specs.Commands.{Command, schema_after, IsCommand}
pub use Rattle.type_schema.specs.Uses.{Use, uses_of, set_uses_of, init_uses_of}
pub use Rattle.type_schema.specs.Proper.{IsProper}
pub use Rattle.type_schema.specs.Script.{Script, schema_at, command_at, start_of, IsScript}
pub use Rattle.type_schema.specs.Kinds.{is_kind_at, kinds_at}
