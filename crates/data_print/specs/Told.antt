-- The text of a database tells it.
use Rattle.std.specs.Prelude.{◌≡◌, nat_eq}
use Rattle.std.specs.List.{AllByRecursion, IsDistinct}
use Rattle.type_schema.specs.Schema.{ModelInfo, Schema}
use Rattle.type_schema.specs.Proper.{field_numbers}
use Rattle.data_meaning.specs.Database.{Database, IsDatabase, IsInOrder}
use Rattle.data_print.specs.Texts.{database_text}

-- The fields of a model are known by their numbers. Two databases over the schema have one text only if they are one.
abbrev pub TextsTellDatabases : Type 0
TextsTellDatabases =
    (s : Schema) (d e : Database) → AllByRecursion (λ (m : ModelInfo). IsDistinct nat_eq (field_numbers m.fields)) s.models
    → IsDatabase s d → IsInOrder s d → IsDatabase s e → IsInOrder s e → database_text s d ≡ database_text s e → d ≡ e
