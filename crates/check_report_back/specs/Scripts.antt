-- Scripts: their names, and the numbers of their commands and models.
use Rattle.std.specs.Prelude.{◌≤◌, ℕ}
use Rattle.std.specs.List.{AllByRecursion}
use Rattle.text_ast.specs.Words.{IsName}
use Rattle.type_schema.specs.Schema.{StaticInfo, FieldInfo, ModelInfo, Schema}
use Rattle.type_schema.specs.Commands.{Command}
use Rattle.type_schema.specs.Script.{Script, count, IsScript}
use Rattle.type_schema.specs.Proper.{IsProper}
use Rattle.data_back.specs.Printed.{IsNumbered}
use Rattle.check_witness.specs.Printed.{statics_by}

-- ---- names

-- the name of the model and those of its fields
pub record HasFieldNames (m : ModelInfo) : Type 0 where
  pub name : IsName m.name
  pub fields : AllByRecursion (λ (f : FieldInfo). IsName f.name) m.fields

-- those of a schema
pub record HaveNames (s : Schema) : Type 0 where
  pub statics : AllByRecursion (λ (n : StaticInfo). IsName n.name) s.statics
  pub models : AllByRecursion HasFieldNames s.models

-- that of a static which the command adds
abbrev pub AddsNames : Command → Type 0
AddsNames c = AllByRecursion (λ (n : StaticInfo). IsName n.name) (statics_by c)

-- ---- numbers

-- counted from 1
pub record IsCommandOf (t : Script) (k : ℕ) : Type 0 where
  pub first : 1 ≤ k
  pub last : k ≤ count t

-- Models are known by their numbers in proper schemas, and in the schema of a script's start databases.
pub record SchemasAreNumbered : Type 0 where
  pub proper : (s : Schema) → IsProper s → IsNumbered s
  pub start : (t : Script) → IsScript t → IsNumbered t.start
