-- The signature of a schema, and the structure of a database over it.
use Rattle.std.specs.Prelude.{ℕ, suc, Bool, true, false, not, ◌&&◌, ◌==◌, List, [], ◌∷◌, map, filter, length, Option, None, Some, if◌then◌else◌}
use Rattle.std.specs.List.{flat_map}
use Rattle.type_schema.specs.declared.types.TBase.{TBase}
use Rattle.type_schema.specs.declared.types.TBase.TheVariants as base
use Rattle.type_schema.specs.declared.types.TTy.{TTy}
use Rattle.type_schema.specs.declared.types.TTy.TheVariants.{Plain, Set, Opt}
use Rattle.type_schema.specs.Schema.{FieldInfo, ModelInfo, Schema}
use Rattle.type_schema.specs.Proper.{model_numbers}
use Rattle.data_meaning.specs.Values.{Value, Flag, Num, Str, Id, Ids, Nothing, Just}
use Rattle.data_meaning.specs.Database.{Database, ids_of, field_at}
use Rattle.data_meaning.specs.Meaning.{set_of}
use Rattle.form_formula.specs.declared.structure.Range.{Range}
use Rattle.form_formula.specs.declared.structure.Range.TheVariants as range
use Rattle.form_formula.specs.declared.structure.FunSig.{FunSig}
use Rattle.form_formula.specs.declared.structure.SetSig.{SetSig}
use Rattle.form_formula.specs.declared.structure.SVal.{SVal}
use Rattle.form_formula.specs.declared.structure.SVal.TheVariants as sval
use Rattle.form_formula.specs.declared.structure.Structure.{Structure}

-- how many stand before the first that passes the test
abbrev pub before : {A : Type 0} → (A → Bool) → List A → ℕ
before test [] = 0
before test (x ∷ xs) = if test x then 0 else suc (before test xs)

-- ---- sorts, functions and set relations, each numbered in the order of the schema

-- a field of a model
pub record Place : Type 0 where
  pub model : ℕ
  pub field : FieldInfo

abbrev pub places_in : ModelInfo → List Place
places_in m = map (λ (f : FieldInfo). record { model = m.number; field = f }) m.fields

abbrev pub is_set : TTy → Bool
is_set (Plain b) = false
is_set (Set m) = true
is_set (Opt b) = false

-- Each model is a sort. Each field is a function from its model's sort; one that holds a set is a set relation.
abbrev pub functions_of : Schema → List Place
functions_of s = filter (λ p. not (is_set p.field.ty)) (flat_map places_in s.models)

abbrev pub relations_of : Schema → List Place
relations_of s = filter (λ p. is_set p.field.ty) (flat_map places_in s.models)

abbrev pub is_place : ℕ → ℕ → Place → Bool
is_place m f p = (p.model == m) && (p.field.number == f)

abbrev pub sort_of : Schema → ℕ → ℕ
sort_of s m = before (λ n. n == m) (model_numbers s.models)

abbrev pub function_of : Schema → ℕ → ℕ → ℕ
function_of s m f = before (is_place m f) (functions_of s)

abbrev pub relation_of : Schema → ℕ → ℕ → ℕ
relation_of s m f = before (is_place m f) (relations_of s)

-- ---- the signature

abbrev pub base_range : Schema → TBase → Range
base_range s base.Bool = range.Flag
base_range s base.Int = range.Num
base_range s base.Text = range.Str
base_range s (base.Id m) = range.Rec (sort_of s m)

abbrev pub range_of : Schema → TTy → Range
range_of s (Plain b) = base_range s b
range_of s (Set m) = range.Rec (sort_of s m)
range_of s (Opt b) = base_range s b

-- whether there may be nothing in the field
abbrev pub is_optional : TTy → Bool
is_optional (Plain b) = false
is_optional (Set m) = false
is_optional (Opt b) = true

-- the model whose ids the values of the type are, if they are ids
abbrev pub base_target : TBase → ℕ
base_target base.Bool = 0
base_target base.Int = 0
base_target base.Text = 0
base_target (base.Id m) = m

abbrev pub target_of : TTy → ℕ
target_of (Plain b) = base_target b
target_of (Set m) = m
target_of (Opt b) = base_target b

abbrev pub function_signature : Schema → Place → FunSig
function_signature s p = record { from = sort_of s p.model; to = range_of s p.field.ty; partial = is_optional p.field.ty }

abbrev pub relation_signature : Schema → Place → SetSig
relation_signature s p = record { from = sort_of s p.model; to = sort_of s (target_of p.field.ty) }

-- The signature of a schema has as many sorts as it has models, and these functions and set relations.
abbrev pub sorts_of : Schema → ℕ
sorts_of s = length s.models

abbrev pub function_signatures : Schema → List FunSig
function_signatures s = map (function_signature s) (functions_of s)

abbrev pub relation_signatures : Schema → List SetSig
relation_signatures s = map (relation_signature s) (relations_of s)

-- ---- the structure

-- a record of the model as an element: how many records of the model stand before it
abbrev pub element_of : Database → ℕ → ℕ → ℕ
element_of d m id = before (λ i. i == id) (ids_of d m)

-- a value that a function has, where ids are those of the model; nothing is no value, and neither is a set
abbrev pub entry_of : Database → ℕ → Value → Option SVal
entry_of d m (Flag b) = Some (sval.Flag b)
entry_of d m (Num n) = Some (sval.Num n)
entry_of d m (Str bytes) = Some (sval.Str bytes)
entry_of d m (Id id) = Some (sval.Rec (element_of d m id))
entry_of d m (Ids ids) = None
entry_of d m Nothing = None
entry_of d m (Just v) = entry_of d m v

-- what a field holds at each record of its model
abbrev pub entries_of : Database → Place → List (Option SVal)
entries_of d p = map (λ id. entry_of d (target_of p.field.ty) (field_at d p.model id p.field.number)) (ids_of d p.model)

-- each record with each that is in its set
abbrev pub pairs_of : Database → Place → List (ℕ × ℕ)
pairs_of d p =
    flat_map
    (λ id. map (λ other. (element_of d p.model id, element_of d (target_of p.field.ty) other)) (set_of (field_at d p.model id p.field.number)))
    (ids_of d p.model)

-- The elements of a sort are the records of the model by rising id; a function has what its field holds.
abbrev pub structure_of : Schema → Database → Structure
structure_of s d = record {
  sizes = map (λ m. length (ids_of d m)) (model_numbers s.models);
  funs = map (entries_of d) (functions_of s);
  sets = map (pairs_of d) (relations_of s);
}
