-- Printed databases are read back.
use Rattle.std.specs.Prelude.{◌≡◌, ℕ, List, ◌++◌, Option, None, Some, nat_eq}
use Rattle.std.specs.List.{AllByRecursion, IsDistinct}
use Rattle.type_schema.specs.Schema.{ModelInfo, Schema}
use Rattle.type_schema.specs.Proper.{field_numbers, model_numbers}
use Rattle.data_meaning.specs.Database.{Table, Database, table_of, IsDatabase, IsTableOf, IsInOrder}
use Rattle.data_print.specs.Texts.{table_text, database_text}
use Rattle.data_back.specs.Back.{table_at}

-- a database over the schema, with the tables of the schema's models in their order
pub record IsStandard (s : Schema) (d : Database) : Type 0 where
  pub database : IsDatabase s d
  pub order : IsInOrder s d

-- models and the fields of each are known by their numbers
pub record IsNumbered (s : Schema) : Type 0 where
  pub models : IsDistinct nat_eq (model_numbers s.models)
  pub fields : AllByRecursion (λ (m : ModelInfo). IsDistinct nat_eq (field_numbers m.fields)) s.models

-- what is read of bytes: the database whose printed text they are, and nothing where they are the text of none
abbrev pub IsRead : Schema → List ℕ → Option Database → Type 0
IsRead s bytes None = (d : Database) → IsStandard s d → database_text s d ≡ bytes → ⊥
IsRead s bytes (Some d) = IsStandard s d × (database_text s d ≡ bytes)

-- the table of a model, printed under a name, is read behind the name
abbrev pub TablesAreRead : Type 0
TablesAreRead =
    (d : Database) (m : ModelInfo) (t : Table) (name rest : List ℕ) → IsDistinct nat_eq (field_numbers m.fields) → table_of d m.number ≡ Some t → t.model ≡ m.number
    → IsTableOf d m t → (behind : List ℕ) × (table_text name d m ++ rest ≡ name ++ behind) × (table_at m behind ≡ Some (t, rest))
