-- Tables that could be those of a structure.
use Rattle.std.specs.Prelude.{◌≡◌, ℕ, true, false, not, Option, Some, Contains, slice_get, FitsSigned}
use Rattle.std.specs.Int.{w64}
use Rattle.std.specs.Option.{option_map}
use Rattle.text_ast.specs.Words.{IsText}
use Rattle.form_formula.specs.declared.structure.Range.{Range}
use Rattle.form_formula.specs.declared.structure.Range.TheVariants as range
use Rattle.form_formula.specs.declared.structure.FunSig.{FunSig}
use Rattle.form_formula.specs.declared.structure.Signature.{Signature}
use Rattle.form_formula.specs.declared.structure.SVal.{SVal}
use Rattle.form_formula.specs.declared.structure.SVal.TheVariants.{Rec, Flag, Num, Str}
use Rattle.form_formula.specs.Over.{IsFunction}
use Rattle.form_terms.specs.GroundTerms.{GroundTerm, GroundTerms, constant, skolem, field, sort_of}
use Rattle.form_terms.specs.Universe.{HasEach}
use Rattle.form_tables.specs.Vocabulary.{Vocabulary, Pair, told, IsValued}
use Rattle.form_tables.specs.Table.{Table, is_there, IsSame, AreSame}

-- what a ground term may have
abbrev pub range_of : Signature → GroundTerm → Option Range
range_of g (constant sort) = Some (range.Rec sort)
range_of g (skolem number sort ts) = Some (range.Rec sort)
range_of g (field h t) = option_map (λ sig. sig.to) (slice_get g.funs h)

-- the value is of the range: an element, a truth value, a number of 64 bits, or a text
abbrev pub IsOfRange : Range → SVal → Type 0
IsOfRange (range.Rec sort) (Rec x) = Unit {0}
IsOfRange (range.Rec sort) (Flag b) = ⊥
IsOfRange (range.Rec sort) (Num n) = ⊥
IsOfRange (range.Rec sort) (Str t) = ⊥
IsOfRange range.Flag (Rec x) = ⊥
IsOfRange range.Flag (Flag b) = Unit {0}
IsOfRange range.Flag (Num n) = ⊥
IsOfRange range.Flag (Str t) = ⊥
IsOfRange range.Num (Rec x) = ⊥
IsOfRange range.Num (Flag b) = ⊥
IsOfRange range.Num (Num n) = FitsSigned w64 n
IsOfRange range.Num (Str t) = ⊥
IsOfRange range.Str (Rec x) = ⊥
IsOfRange range.Str (Flag b) = ⊥
IsOfRange range.Str (Num n) = ⊥
IsOfRange range.Str (Str t) = IsText t

module _ (g : Signature) (v : Vocabulary) (table : Table) where
  -- functions: each has something only at terms that are there, a total one at all of these; and what it has, if anything, is the same
  -- at terms that are the same
  pub record AreFunctions : Type 0 where
    pub within : (h : ℕ) (t : GroundTerm) → Contains (told v) (field h t) → is_there table (field h t) ≡ true → is_there table t ≡ true
    pub total : (h : ℕ) (sig : FunSig) (t : GroundTerm) → Contains (told v) (field h t) → IsFunction g h sig → sig.partial ≡ false
        → is_there table t ≡ true → is_there table (field h t) ≡ true
    pub alike : (h : ℕ) (t u : GroundTerm) → Contains (told v) (field h t) → Contains (told v) (field h u) → IsSame table t u
        → is_there table (field h t) ≡ is_there table (field h u)
    pub same : (h : ℕ) (t u : GroundTerm) → IsValued g v (field h t) → IsValued g v (field h u) → IsSame table t u
        → table.value (field h t) ≡ table.value (field h u)

  -- the variables of `exists`: each is there only at terms that are there, and it is the same at terms that are the same
  pub record AreVariables : Type 0 where
    pub within : (number sort : ℕ) (ts : GroundTerms) → Contains v.named (skolem number sort ts) → is_there table (skolem number sort ts) ≡ true
        → HasEach (λ t. is_there table t ≡ true) ts
    pub same : (number sort : ℕ) (ts us : GroundTerms) → Contains v.named (skolem number sort ts) → Contains v.named (skolem number sort us)
        → AreSame table ts us → table.value (skolem number sort ts) ≡ table.value (skolem number sort us)

  -- set relations: each holds only of terms that are there, and of terms that are the same if of these
  pub record AreRelations : Type 0 where
    pub within : (p : Pair) → Contains v.pairs p → table.has p.relation p.holder p.member ≡ true
        → (is_there table p.holder ≡ true) × (is_there table p.member ≡ true)
    pub same : (p q : Pair) → Contains v.pairs p → Contains v.pairs q → p.relation ≡ q.relation → IsSame table p.holder q.holder
        → IsSame table p.member q.member → table.has p.relation p.holder p.member ≡ table.has q.relation q.holder q.member

  -- sorts: the constant is there where the sort is not empty; whatever is there makes its sort not empty, and an element of a total
  -- function's source makes its target so
  pub record AreSorts : Type 0 where
    pub constants : (sort : ℕ) → Contains v.named (constant sort) → is_there table (constant sort) ≡ not (table.is_empty sort)
    pub inhabited : (t : GroundTerm) (sort : ℕ) → Contains (told v) t → sort_of g t ≡ Some sort → is_there table t ≡ true → table.is_empty sort ≡ false
    pub followed : (h : ℕ) (sig : FunSig) (sort : ℕ) → IsFunction g h sig → sig.partial ≡ false → sig.to ≡ range.Rec sort
        → table.is_empty sig.from ≡ false → table.is_empty sort ≡ false

  pub record IsConsistent : Type 0 where
    pub typed : (t : GroundTerm) (range : Range) (x : SVal) → Contains (told v) t → range_of g t ≡ Some range → table.value t ≡ Some x → IsOfRange range x
    pub functions : AreFunctions
    pub variables : AreVariables
    pub relations : AreRelations
    pub sorts : AreSorts
