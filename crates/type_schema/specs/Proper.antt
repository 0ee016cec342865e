-- Proper schemas.
use Rattle.std.specs.Prelude.{ℕ, ◌<◌, List, [], ◌∷◌, ◌++◌, map, nat_eq, Contains}
use Rattle.std.specs.List.{AllByRecursion, IsDistinct}
use Rattle.std.specs.Str.{bytes_eq}
use Rattle.type_schema.specs.Trees.{Name}
use Rattle.type_schema.specs.Schema.{StaticInfo, FieldInfo, ModelInfo, Added, Schema}
use Rattle.type_schema.specs.Typing.{IsTyped}
use Rattle.type_schema.specs.Uses.{Use, init_uses_of}

-- the numbers differ, and all are below the next free one
pub record AreNumbers (next : ℕ) (numbers : List ℕ) : Type 0 where
  pub distinct : IsDistinct nat_eq numbers
  pub below : AllByRecursion (λ n. n < next) numbers

abbrev pub field_numbers : List FieldInfo → List ℕ
field_numbers fields = map (λ (f : FieldInfo). f.number) fields

abbrev pub model_numbers : List ModelInfo → List ℕ
model_numbers models = map (λ (m : ModelInfo). m.number) models

abbrev pub static_numbers : List StaticInfo → List ℕ
static_numbers statics = map (λ (n : StaticInfo). n.number) statics

-- statics and models share their names
abbrev pub names_of : Schema → List Name
names_of s = map (λ (n : StaticInfo). n.name) s.statics ++ map (λ (m : ModelInfo). m.name) s.models

abbrev pub use_of : Added → Use
use_of a = record { model = a.model; field = a.field }

-- each initialiser reads, of these fields, only such as stand before its own
abbrev pub AreInOrder : List Added → Type 0
AreInOrder [] = Unit {0}
AreInOrder (a ∷ later) = AllByRecursion (λ u. Contains (map use_of (a ∷ later)) u → ⊥) (init_uses_of a.init) × AreInOrder later

pub record AreProperFields (next : ℕ) (m : ModelInfo) : Type 0 where
  pub numbers : AreNumbers next (field_numbers m.fields)
  pub names : IsDistinct bytes_eq (map (λ (f : FieldInfo). f.name) m.fields)

pub record IsProper (s : Schema) : Type 0 where
  pub typed : IsTyped s
  pub names : IsDistinct bytes_eq (names_of s)
  pub statics : AreNumbers s.next_static (static_numbers s.statics)
  pub models : AreNumbers s.next_model (model_numbers s.models)
  pub fields : AllByRecursion (AreProperFields s.next_field) s.models
  pub added : AreNumbers s.next_field (map (λ (a : Added). a.field) s.added)
  pub order : AreInOrder s.added
