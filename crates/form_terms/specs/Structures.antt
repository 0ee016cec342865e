-- The finite structures over a signature.
use Rattle.std.specs.Prelude.{◌≡◌, ℕ, ◌<◌, true, [], length, Option, None, Some, slice_get, slice_index_or, FitsSigned}
use Rattle.std.specs.Int.{w64}
use Rattle.std.specs.List.{All}
use Rattle.text_ast.specs.Words.{IsText}
use Rattle.form_formula.specs.declared.structure.Range.{Range}
use Rattle.form_formula.specs.declared.structure.Range.TheVariants as range
use Rattle.form_formula.specs.declared.structure.FunSig.{FunSig}
use Rattle.form_formula.specs.declared.structure.SetSig.{SetSig}
use Rattle.form_formula.specs.declared.structure.Signature.{Signature}
use Rattle.form_formula.specs.declared.structure.SVal.{SVal}
use Rattle.form_formula.specs.declared.structure.SVal.TheVariants.{Rec, Flag, Num, Str}
use Rattle.form_formula.specs.declared.structure.Structure.{Structure}
use Rattle.form_formula.specs.Over.{IsFunction}
use Rattle.form_formula.specs.Truth.{entry}
pub use Rattle.form_formula.specs.Truth.{size_of}

-- the value is of the range: an element that is there, a truth value, a number of 64 bits, or a text
abbrev pub IsValueOf : Structure → Range → SVal → Type 0
IsValueOf s (range.Rec sort) (Rec x) = x < size_of s sort
IsValueOf s (range.Rec sort) (Flag b) = ⊥
IsValueOf s (range.Rec sort) (Num n) = ⊥
IsValueOf s (range.Rec sort) (Str t) = ⊥
IsValueOf s range.Flag (Rec x) = ⊥
IsValueOf s range.Flag (Flag b) = Unit {0}
IsValueOf s range.Flag (Num n) = ⊥
IsValueOf s range.Flag (Str t) = ⊥
IsValueOf s range.Num (Rec x) = ⊥
IsValueOf s range.Num (Flag b) = ⊥
IsValueOf s range.Num (Num n) = FitsSigned w64 n
IsValueOf s range.Num (Str t) = ⊥
IsValueOf s range.Str (Rec x) = ⊥
IsValueOf s range.Str (Flag b) = ⊥
IsValueOf s range.Str (Num n) = ⊥
IsValueOf s range.Str (Str t) = IsText t

-- a partial function may have nothing
abbrev pub IsEntryOf : Structure → FunSig → Option SVal → Type 0
IsEntryOf s sig None = sig.partial ≡ true
IsEntryOf s sig (Some v) = IsValueOf s sig.to v

-- the structure has just what the signature names: a size for each sort, a value for each function and element, and pairs of elements
-- for each set relation, in any order
pub record IsStructure (g : Signature) (s : Structure) : Type 0 where
  pub sizes : length s.sizes ≡ g.sorts
  pub functions : length s.funs ≡ length g.funs
  pub relations : length s.sets ≡ length g.sets
  pub places : (h : ℕ) (sig : FunSig) → IsFunction g h sig → length (slice_index_or s.funs h []) ≡ size_of s sig.from
  pub values : (h : ℕ) (sig : FunSig) (x : ℕ) → IsFunction g h sig → x < size_of s sig.from → IsEntryOf s sig (entry s h x)
  pub pairs : (r : ℕ) (sig : SetSig) → slice_get g.sets r ≡ Some sig
      → All (λ p. (p.0 < size_of s sig.from) × (p.1 < size_of s sig.to)) (slice_index_or s.sets r [])
