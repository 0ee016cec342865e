-- Values, and those of a type.
use Rattle.std.specs.Prelude.{◌≡◌, ◌≤◌, ℕ, ℤ, Bool, List, [], ◌∷◌, ◌⊎◌, FitsSigned}
use Rattle.std.specs.List.{AllByRecursion}
use Rattle.std.specs.List.Sorted.{IsStrictlyIncreasing}
use Rattle.std.specs.Int.{w64}
use Rattle.text_ast.specs.Words.{IsText}
use Rattle.data_meaning.specs.declared.limits.TheConstants.{LAST_ID}
use Rattle.type_schema.specs.declared.types.TBase.{TBase}
use Rattle.type_schema.specs.declared.types.TBase.TheVariants as base
use Rattle.type_schema.specs.declared.types.TTy.{TTy}
use Rattle.type_schema.specs.declared.types.TTy.TheVariants.{Plain, Set, Opt}

-- what a field of a record holds, and what an expression has; of an option, nothing or a value
pub data Value : Type 0 where
  Flag : Bool → Value
  Num : ℤ → Value
  Str : List ℕ → Value
  Id : ℕ → Value
  Ids : List ℕ → Value
  Nothing : Value
  Just : Value → Value

abbrev pub last_id : ℕ
last_id = LAST_ID

abbrev pub IsId : ℕ → Type 0
IsId id = (1 ≤ id) × (id ≤ last_id)

-- Truth values, whole numbers of 64 bits, texts of UTF-8 of at most 4,096 bytes, and ids.
abbrev pub IsBaseValueOf : TBase → Value → Type 0
IsBaseValueOf base.Bool v = (b : Bool) × (v ≡ Flag b)
IsBaseValueOf base.Int v = (n : ℤ) × (v ≡ Num n) × FitsSigned w64 n
IsBaseValueOf base.Text v = (bytes : List ℕ) × (v ≡ Str bytes) × IsText bytes
IsBaseValueOf (base.Id m) v = (id : ℕ) × (v ≡ Id id) × IsId id

-- A set is a rising list of ids.
abbrev pub IsValueOf : TTy → Value → Type 0
IsValueOf (Plain b) v = IsBaseValueOf b v
IsValueOf (Set m) v = (ids : List ℕ) × (v ≡ Ids ids) × IsStrictlyIncreasing ids × AllByRecursion IsId ids
IsValueOf (Opt b) v = (v ≡ Nothing) ⊎ ((w : Value) × (v ≡ Just w) × IsBaseValueOf b w)

-- ---- ids in a value

-- the ids that a value holds
abbrev pub ids_in : Value → List ℕ
ids_in (Flag b) = []
ids_in (Num n) = []
ids_in (Str bytes) = []
ids_in (Id id) = id ∷ []
ids_in (Ids ids) = ids
ids_in Nothing = []
ids_in (Just v) = ids_in v
