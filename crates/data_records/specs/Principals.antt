-- Principals of a schema that are there.
use Rattle.std.specs.Prelude.{Bool, ◌&&◌, is_some}
use Rattle.type_schema.specs.Schema.{Schema, static_of, is_principal_model}
use Rattle.data_meaning.specs.declared.principals.Principal.{Principal}
use Rattle.data_meaning.specs.declared.principals.Principal.TheVariants.{Static, Rec}
use Rattle.data_meaning.specs.Database.{Database, has_record}

-- a static principal of the schema, or a record that is there of a model that the schema marks
abbrev pub is_principal_of : Schema → Database → Principal → Bool
is_principal_of s d (Static n) = is_some (static_of s n)
is_principal_of s d (Rec m id) = is_principal_model s m && has_record d m id
