-- Tables and pairs over a structure.
use Rattle.std.specs.Prelude.{◌≡◌, ◌<◌, ℕ, List, Option, length}
use Rattle.std.specs.List.{All}
use Rattle.form_formula.specs.declared.structure.FunSig.{FunSig}
use Rattle.form_formula.specs.declared.structure.SetSig.{SetSig}
use Rattle.form_formula.specs.declared.structure.SVal.{SVal}
use Rattle.form_formula.specs.declared.structure.Structure.{Structure}
use Rattle.form_terms.specs.Structures.{IsEntryOf, size_of}

-- the function has something at each element
pub record IsTableOf (s : Structure) (sig : FunSig) (table : List (Option SVal)) : Type 0 where
  pub long : length table ≡ size_of s sig.from
  pub entries : All (IsEntryOf s sig) table

abbrev pub IsPairOf : Structure → SetSig → ℕ × ℕ → Type 0
IsPairOf s sig p = (p.0 < size_of s sig.from) × (p.1 < size_of s sig.to)

-- the pairs are of elements that there are
unfoldable pub IsRelationOf : Structure → SetSig → List (ℕ × ℕ) → Type 0
IsRelationOf s sig pairs = All (IsPairOf s sig) pairs
