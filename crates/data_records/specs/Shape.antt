-- Shapes of values, and the records that they name.
use Rattle.std.specs.Prelude.{◌≡◌, ◌⊎◌, ℕ, ℤ, Bool, not, List, Option, None, Some, FitsSigned, option_and_then}
use Rattle.std.specs.List.{find}
use Rattle.std.specs.List.Sorted.{IsStrictlyIncreasing}
use Rattle.std.specs.Int.{w64}
use Rattle.text_ast.specs.Words.{IsText}
use Rattle.type_schema.specs.declared.types.TBase.{TBase}
use Rattle.type_schema.specs.declared.types.TBase.TheVariants as base
use Rattle.type_schema.specs.declared.types.TTy.{TTy}
use Rattle.type_schema.specs.declared.types.TTy.TheVariants.{Plain, Set, Opt}
use Rattle.data_meaning.specs.Values.{Value, Flag, Num, Str, Id, Ids, Nothing, Just, ids_in}

-- A value has the shape of a type where, but for which ids stand in it, it is a value of the type.
abbrev pub IsBaseShape : TBase → Value → Type 0
IsBaseShape base.Bool v = (b : Bool) × (v ≡ Flag b)
IsBaseShape base.Int v = (n : ℤ) × (v ≡ Num n) × FitsSigned w64 n
IsBaseShape base.Text v = (bytes : List ℕ) × (v ≡ Str bytes) × IsText bytes
IsBaseShape (base.Id m) v = (id : ℕ) × (v ≡ Id id)

abbrev pub IsShape : TTy → Value → Type 0
IsShape (Plain b) v = IsBaseShape b v
IsShape (Set m) v = (ids : List ℕ) × (v ≡ Ids ids) × IsStrictlyIncreasing ids
IsShape (Opt b) v = (v ≡ Nothing) ⊎ ((w : Value) × (v ≡ Just w) × IsBaseShape b w)

-- the model whose records the ids of a type are
abbrev pub base_model : TBase → Option ℕ
base_model base.Bool = None
base_model base.Int = None
base_model base.Text = None
base_model (base.Id m) = Some m

abbrev pub model_named : TTy → Option ℕ
model_named (Plain b) = base_model b
model_named (Set m) = Some m
model_named (Opt b) = base_model b

-- which records count as being there, by model and id
abbrev pub There : Type 0
There = ℕ → ℕ → Bool

-- the first id in a value that names no record
abbrev pub dangling_in : There → TTy → Value → Option ℕ
dangling_in there t v = option_and_then (λ m. find (λ id. not (there m id)) (ids_in v)) (model_named t)
