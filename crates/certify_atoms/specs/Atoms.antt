-- What facts say for the decision procedures: an equality of two elements or texts, or a bound on the difference of two numbers.
use Rattle.std.specs.Prelude.{◌≡◌, ℕ, ℤ, ◌+◌, ◌<◌, pos, ◌-ℤ◌, ◌⊎◌, List, [], ◌∷◌, Option, Some, IfSome, length, slice_get, Contains}
use Rattle.solve_equality.specs.declared.literal.EqualityLit.TheVariants as equality
use Rattle.solve_order.specs.declared.diff.Diff.{Diff}
use Rattle.solve_theory.specs.declared.pair.PairLit.TheVariants.{Left, Right}
use Rattle.form_formula.specs.declared.node.Node.{Node}
use Rattle.form_formula.specs.declared.structure.Range.TheVariants as range
use Rattle.form_formula.specs.declared.structure.Signature.{Signature}
use Rattle.ground_terms.specs.declared.node.TermNode.{TermNode}
use Rattle.ground_terms.specs.Nodes.{term_of, IsOne}
use Rattle.form_tables.specs.Vocabulary.{told}
use Rattle.form_tables.specs.Consistent.{range_of}
use Rattle.form_tables.specs.Facts.{number, text}
use Rattle.ground_instances.specs.declared.input.Value.{Value}
use Rattle.ground_instances.specs.declared.input.Value.TheVariants.{Term}
use Rattle.ground_problem.specs.Words.{vocabulary_at}
use Rattle.ground_problem.specs.declared.words.Words.{Words}
use Rattle.ground_problem.specs.declared.facts.FactNode.{FactNode}
use Rattle.ground_problem.specs.declared.facts.FactNode.TheVariants.{There, Same, Below, Raised, Related, Empty}
use Rattle.ground_problem.specs.Facts.{noun_at}
use Rattle.certify_clauses.specs.Problem.{Said}
use Rattle.certify_atoms.specs.declared.sides.Side.{Side}
use Rattle.certify_atoms.specs.declared.sides.Side.TheVariants as side

-- what an atom says where it is true, and where it is false
abbrev pub Both : Type 0
Both = Said × Said

-- `x - y` is at most so much
abbrev pub difference : ℕ → ℕ → ℤ → Diff
difference x y c = record { x = x; y = y; c = c }

module _ (g : Signature) (nodes : List Node) (terms : List TermNode) (w : Words) (texts : List (List ℕ)) where
  -- the number is that of a term of which a table tells
  pub record IsTold (id : ℕ) : Type 0 where
    pub one : IsOne terms id
    pub is_told : Contains (told (vocabulary_at terms w)) (term_of terms id)

  -- a text as a term of equality: a told term's own number, and behind all numbers of terms the places of the formula's texts
  pub record IsTextTerm (v : Value) (c : ℕ) : Type 0 where
    pub value : v ≡ Term c
    pub told_there : IsTold c
    pub ranged : range_of g (term_of terms c) ≡ Some range.Str

  pub record IsTextLiteral (v : Value) (c : ℕ) : Type 0 where
    pub bytes : List ℕ
    pub place : ℕ
    pub listed : slice_get texts place ≡ Some bytes
    pub behind : c ≡ length terms + place
    pub noun : noun_at nodes terms v ≡ text bytes

  -- a number as one of differences: that of a told term behind zero, or zero and so much
  pub record IsNumberTerm (v : Value) (x : ℕ) (o : ℤ) : Type 0 where
    pub id : ℕ
    pub value : v ≡ Term id
    pub told_there : IsTold id
    pub ranged : range_of g (term_of terms id) ≡ Some range.Num
    pub behind : x ≡ id + 1
    pub itself : o ≡ pos 0

  pub record IsNumberLiteral (v : Value) (x : ℕ) (o : ℤ) : Type 0 where
    pub zero_at : x ≡ 0
    pub noun : noun_at nodes terms v ≡ number o

  pub record IsElement (v : Value) (sort c : ℕ) : Type 0 where
    pub value : v ≡ Term c
    pub one : IsOne terms c
    pub ranged : range_of g (term_of terms c) ≡ Some (range.Rec sort)

  abbrev pub IsNumberSide : Value → ℕ → ℤ → Type 0
  IsNumberSide v x o = IsNumberTerm v x o ⊎ IsNumberLiteral v x o

  -- what a value is to the decision procedures
  abbrev pub IsSide : Value → Side → Type 0
  IsSide v (side.Element sort c) = IsElement v sort c
  IsSide v (side.Text c) = IsTextTerm v c ⊎ IsTextLiteral v c
  IsSide v (side.Number x o) = IsNumberSide v x o

  -- two elements of a sort, or two texts
  pub record AreElements (v u : Value) (c d : ℕ) : Type 0 where
    pub sort : ℕ
    pub left : IsElement v sort c
    pub right : IsElement u sort d

  pub record AreTexts (v u : Value) (c d : ℕ) : Type 0 where
    pub left : IsTextTerm v c ⊎ IsTextLiteral v c
    pub right : IsTextTerm u d ⊎ IsTextLiteral u d

  -- the two are the same, or they differ
  pub record IsSameAtom (v u : Value) (both : Both) : Type 0 where
    pub left : ℕ
    pub right : ℕ
    pub sides : AreElements v u left right ⊎ AreTexts v u left right
    pub when_true : both.0 ≡ Left (equality.Same left right)
    pub when_false : both.1 ≡ Left (equality.Differ left right)

  -- one number is below another, or it is not
  pub record IsBelowAtom (v u : Value) (both : Both) : Type 0 where
    pub x : ℕ
    pub y : ℕ
    pub o : ℤ
    pub q : ℤ
    pub left : IsNumberSide v x o
    pub right : IsNumberSide u y q
    pub when_true : both.0 ≡ Right (difference x y ((q -ℤ o) -ℤ pos 1))
    pub when_false : both.1 ≡ Right (difference y x (o -ℤ q))

  -- what a fact says where it is one, and where it is none
  abbrev pub IsAtomOf : FactNode → Both → Type 0
  IsAtomOf (There id) both = ⊥
  IsAtomOf (Same v u) both = IsSameAtom v u both
  IsAtomOf (Below v u) both = IsBelowAtom v u both
  IsAtomOf (Raised id) both = ⊥
  IsAtomOf (Related p) both = ⊥
  IsAtomOf (Empty sort) both = ⊥

  -- and facts, one by one, of which some say nothing
  abbrev pub AreAtomsOf : List FactNode → List (Option Both) → Type 0
  AreAtomsOf [] [] = Unit {0}
  AreAtomsOf [] (a ∷ ls) = ⊥
  AreAtomsOf (p ∷ ps) [] = ⊥
  AreAtomsOf (p ∷ ps) (a ∷ ls) = IfSome a (IsAtomOf p) × AreAtomsOf ps ls

-- the two say this, by what their values are
abbrev pub SaysSame : ℕ → ℕ → Both → Type 0
SaysSame a b both = (both.0 ≡ Left (equality.Same a b)) × (both.1 ≡ Left (equality.Differ a b))

abbrev pub SaysBelow : ℕ → ℤ → ℕ → ℤ → Both → Type 0
SaysBelow x o y q both = (both.0 ≡ Right (difference x y ((q -ℤ o) -ℤ pos 1))) × (both.1 ≡ Right (difference y x (o -ℤ q)))

abbrev pub IsSameOf : Side → Side → Both → Type 0
IsSameOf (side.Element sort a) (side.Element other b) both = (sort ≡ other) × SaysSame a b both
IsSameOf (side.Element sort a) (side.Text b) both = ⊥
IsSameOf (side.Element sort a) (side.Number y q) both = ⊥
IsSameOf (side.Text a) (side.Element other b) both = ⊥
IsSameOf (side.Text a) (side.Text b) both = SaysSame a b both
IsSameOf (side.Text a) (side.Number y q) both = ⊥
IsSameOf (side.Number x o) (side.Element other b) both = ⊥
IsSameOf (side.Number x o) (side.Text b) both = ⊥
IsSameOf (side.Number x o) (side.Number y q) both = ⊥

abbrev pub IsBelowOf : Side → Side → Both → Type 0
IsBelowOf (side.Element sort a) s both = ⊥
IsBelowOf (side.Text a) s both = ⊥
IsBelowOf (side.Number x o) (side.Element other b) both = ⊥
IsBelowOf (side.Number x o) (side.Text b) both = ⊥
IsBelowOf (side.Number x o) (side.Number y q) both = SaysBelow x o y q both

-- a term of equality is one of so many, and a number is zero or that of a term
abbrev pub IsSideWithin : ℕ → ℕ → Side → Type 0
IsSideWithin terms texts (side.Element sort c) = c < terms + texts
IsSideWithin terms texts (side.Text c) = c < terms + texts
IsSideWithin terms texts (side.Number x o) = x < terms + 1
