-- Facts as variables of which some are equalities of terms or differences of numbers.
use Rattle.std.specs.Prelude.{◌≡◌, ℕ, ℤ, ◌+◌, pos, ◌-ℤ◌, ◌⊎◌, true, false, List, [], ◌∷◌, ◌++◌, None, Some, IfSome, length, replicate, slice_get, Contains}
use Rattle.solve_equality.specs.declared.literal.EqualityLit.{EqualityLit}
use Rattle.solve_equality.specs.declared.literal.EqualityLit.TheVariants as equality
use Rattle.solve_order.specs.declared.diff.Diff.{Diff}
use Rattle.solve_theory.specs.declared.pair.PairLit.{PairLit}
use Rattle.solve_theory.specs.declared.pair.PairLit.TheVariants.{Left, Right}
use Rattle.solve_solver.specs.declared.literal.PLit.{PLit}
use Rattle.decide_search.specs.Mixed.{Atom}
use Rattle.form_formula.specs.declared.node.Node.{Node}
use Rattle.form_formula.specs.declared.structure.Range.TheVariants as range
use Rattle.form_formula.specs.declared.structure.Signature.{Signature}
use Rattle.ground_terms.specs.declared.node.TermNode.{TermNode}
use Rattle.ground_terms.specs.Nodes.{term_of, IsOne}
use Rattle.form_tables.specs.Vocabulary.{told}
use Rattle.form_tables.specs.Consistent.{range_of}
use Rattle.form_tables.specs.Facts.{number, text}
use Rattle.ground_instances.specs.declared.input.Value.{Value}
use Rattle.ground_instances.specs.declared.input.Value.TheVariants.{Term}
use Rattle.ground_problem.specs.Words.{vocabulary_at}
use Rattle.ground_problem.specs.declared.words.Words.{Words}
use Rattle.ground_problem.specs.declared.facts.FactNode.{FactNode}
use Rattle.ground_problem.specs.declared.facts.FactNode.TheVariants.{There, Same, Below, Raised, Related, Empty}
use Rattle.ground_problem.specs.Facts.{noun_at}
use Rattle.decide_search.specs.declared.sides.Side.{Side}
use Rattle.decide_search.specs.declared.sides.Side.TheVariants as side

-- `x - y` is at most so much
abbrev pub difference : ℕ → ℕ → ℤ → Diff
difference x y c = record { x = x; y = y; c = c }

module _ (g : Signature) (nodes : List Node) (terms : List TermNode) (w : Words) (texts : List (List ℕ)) where
  -- the number is that of a term of which a table tells
  pub record IsTold (id : ℕ) : Type 0 where
    pub one : IsOne terms id
    pub is_told : Contains (told (vocabulary_at terms w)) (term_of terms id)

  -- a text as a term of equality: a told term's own number, and behind all numbers of terms the places of the formula's texts
  pub record IsTextTerm (v : Value) (c : ℕ) : Type 0 where
    pub value : v ≡ Term c
    pub told_there : IsTold c
    pub ranged : range_of g (term_of terms c) ≡ Some range.Str

  pub record IsTextLiteral (v : Value) (c : ℕ) : Type 0 where
    pub bytes : List ℕ
    pub place : ℕ
    pub listed : slice_get texts place ≡ Some bytes
    pub behind : c ≡ length terms + place
    pub noun : noun_at nodes terms v ≡ text bytes

  -- a number as one of differences: that of a told term behind zero, or zero and so much
  pub record IsNumberTerm (v : Value) (x : ℕ) (o : ℤ) : Type 0 where
    pub id : ℕ
    pub value : v ≡ Term id
    pub told_there : IsTold id
    pub ranged : range_of g (term_of terms id) ≡ Some range.Num
    pub behind : x ≡ id + 1
    pub itself : o ≡ pos 0

  pub record IsNumberLiteral (v : Value) (x : ℕ) (o : ℤ) : Type 0 where
    pub zero_at : x ≡ 0
    pub noun : noun_at nodes terms v ≡ number o

  pub record IsElement (v : Value) (sort c : ℕ) : Type 0 where
    pub value : v ≡ Term c
    pub one : IsOne terms c
    pub ranged : range_of g (term_of terms c) ≡ Some (range.Rec sort)

  -- what a value is to the decision procedures
  abbrev pub IsSide : Value → Side → Type 0
  IsSide v (side.Element sort c) = IsElement v sort c
  IsSide v (side.Text c) = IsTextTerm v c ⊎ IsTextLiteral v c
  IsSide v (side.Number x o) = IsNumberTerm v x o ⊎ IsNumberLiteral v x o

  -- two elements of a sort, or two texts
  pub record AreElements (v u : Value) (c d : ℕ) : Type 0 where
    pub sort : ℕ
    pub left : IsElement v sort c
    pub right : IsElement u sort d

  pub record AreTexts (v u : Value) (c d : ℕ) : Type 0 where
    pub left : IsTextTerm v c ⊎ IsTextLiteral v c
    pub right : IsTextTerm u d ⊎ IsTextLiteral u d

  pub record IsSameAtom (v u : Value) (pair : PairLit EqualityLit Diff × PairLit EqualityLit Diff) : Type 0 where
    pub left : ℕ
    pub right : ℕ
    pub sides : AreElements v u left right ⊎ AreTexts v u left right
    pub when_true : pair.0 ≡ Left (equality.Same left right)
    pub when_false : pair.1 ≡ Left (equality.Differ left right)

  abbrev pub IsNumberSide : Value → ℕ → ℤ → Type 0
  IsNumberSide v x o = IsNumberTerm v x o ⊎ IsNumberLiteral v x o

  pub record IsBelowAtom (v u : Value) (pair : PairLit EqualityLit Diff × PairLit EqualityLit Diff) : Type 0 where
    pub x : ℕ
    pub y : ℕ
    pub o : ℤ
    pub q : ℤ
    pub left : IsNumberSide v x o
    pub right : IsNumberSide u y q
    pub when_true : pair.0 ≡ Right (difference x y ((q -ℤ o) -ℤ pos 1))
    pub when_false : pair.1 ≡ Right (difference y x (o -ℤ q))

  -- the literals of a fact
  abbrev pub IsAtomOf : FactNode → PairLit EqualityLit Diff × PairLit EqualityLit Diff → Type 0
  IsAtomOf (There id) pair = ⊥
  IsAtomOf (Same v u) pair = IsSameAtom v u pair
  IsAtomOf (Below v u) pair = IsBelowAtom v u pair
  IsAtomOf (Raised id) pair = ⊥
  IsAtomOf (Related p) pair = ⊥
  IsAtomOf (Empty sort) pair = ⊥

  -- and of facts, one by one, of which some have none
  abbrev pub AreAtomsOf : List FactNode → List Atom → Type 0
  AreAtomsOf [] [] = Unit {0}
  AreAtomsOf [] (a ∷ ls) = ⊥
  AreAtomsOf (p ∷ ps) [] = ⊥
  AreAtomsOf (p ∷ ps) (a ∷ ls) = IfSome a (IsAtomOf p) × AreAtomsOf ps ls

  -- the first variables are those of facts, then come others without literals, and then those of halves
  pub record AreAtomsFor (vars : ℕ) (facts halves : List FactNode) (atoms : List Atom) : Type 0 where
    pub own : List Atom
    pub own_are : AreAtomsOf facts own
    pub gap : ℕ
    pub to_gap : length facts + gap ≡ vars
    pub others : List Atom
    pub others_are : AreAtomsOf halves others
    pub whole : atoms ≡ (own ++ replicate gap None) ++ others

  -- two numbers are the same, or one is below the other: the variable of the fact and those of the halves
  pub record IsHalved (vars : ℕ) (facts halves : List FactNode) (x : ℕ) (e : ℕ) : Type 0 where
    pub half : ℕ
    pub v : Value
    pub u : Value
    pub same_there : slice_get facts x ≡ Some (Same v u)
    pub below_there : slice_get halves half ≡ Some (Below v u)
    pub above_there : slice_get halves (half + 1) ≡ Some (Below u v)
    pub left : (y : ℕ) × (o : ℤ) × IsNumberSide v y o
    pub right : (y : ℕ) × (o : ℤ) × IsNumberSide u y o
    pub halves_at : e ≡ vars + half

abbrev pub positive : ℕ → PLit
positive x = record { var = x; plus = true }

abbrev pub negative : ℕ → PLit
negative x = record { var = x; plus = false }

-- the clauses of a numeric equality and its halves
abbrev pub link_clauses : ℕ → ℕ → List (List PLit)
link_clauses x e =
    (positive x ∷ positive e ∷ positive (e + 1) ∷ []) ∷ (negative x ∷ negative e ∷ []) ∷ (negative x ∷ negative (e + 1) ∷ []) ∷ []

-- the literals of an equality and of a comparison, by what their values are
abbrev pub SameLiterals : ℕ → ℕ → PairLit EqualityLit Diff × PairLit EqualityLit Diff → Type 0
SameLiterals a b pair = (pair.0 ≡ Left (equality.Same a b)) × (pair.1 ≡ Left (equality.Differ a b))

abbrev pub BelowLiterals : ℕ → ℤ → ℕ → ℤ → PairLit EqualityLit Diff × PairLit EqualityLit Diff → Type 0
BelowLiterals x o y q pair = (pair.0 ≡ Right (difference x y ((q -ℤ o) -ℤ pos 1))) × (pair.1 ≡ Right (difference y x (o -ℤ q)))

abbrev pub IsSameOf : Side → Side → PairLit EqualityLit Diff × PairLit EqualityLit Diff → Type 0
IsSameOf (side.Element sort a) (side.Element other b) pair = (sort ≡ other) × SameLiterals a b pair
IsSameOf (side.Element sort a) (side.Text b) pair = ⊥
IsSameOf (side.Element sort a) (side.Number y q) pair = ⊥
IsSameOf (side.Text a) (side.Element other b) pair = ⊥
IsSameOf (side.Text a) (side.Text b) pair = SameLiterals a b pair
IsSameOf (side.Text a) (side.Number y q) pair = ⊥
IsSameOf (side.Number x o) (side.Element other b) pair = ⊥
IsSameOf (side.Number x o) (side.Text b) pair = ⊥
IsSameOf (side.Number x o) (side.Number y q) pair = ⊥

abbrev pub IsBelowOf : Side → Side → PairLit EqualityLit Diff × PairLit EqualityLit Diff → Type 0
IsBelowOf (side.Element sort a) s pair = ⊥
IsBelowOf (side.Text a) s pair = ⊥
IsBelowOf (side.Number x o) (side.Element other b) pair = ⊥
IsBelowOf (side.Number x o) (side.Text b) pair = ⊥
IsBelowOf (side.Number x o) (side.Number y q) pair = BelowLiterals x o y q pair

-- the literals of these facts were put at the end
pub record AddsAtoms (g : Signature) (nodes : List Node) (terms : List TermNode) (w : Words) (texts : List (List ℕ)) (facts : List FactNode) (old new : List Atom) : Type 0 where
  pub more : List Atom
  pub are : AreAtomsOf g nodes terms w texts facts more
  pub whole : new ≡ old ++ more

-- a value is a number
abbrev pub IsNumeric : Signature → List Node → List TermNode → Words → List (List ℕ) → Value → Type 0
IsNumeric g nodes terms w texts v = (y : ℕ) × (o : ℤ) × IsNumberSide g nodes terms w texts v y o

-- the fact is the equality of two numbers
pub record AreSameNumbers (g : Signature) (nodes : List Node) (terms : List TermNode) (w : Words) (texts : List (List ℕ)) (fact : FactNode) (v u : Value) : Type 0 where
  pub is_same : fact ≡ Same v u
  pub left : IsNumeric g nodes terms w texts v
  pub right : IsNumeric g nodes terms w texts u

-- equalities of numbers have halves, and clauses that link these
pub record AreLinked (g : Signature) (nodes : List Node) (terms : List TermNode) (w : Words) (texts : List (List ℕ)) (vars : ℕ) (facts halves : List FactNode) (links : List (List PLit)) : Type 0 where
  pub linked : (c : List PLit) → Contains links c → (x : ℕ) × (e : ℕ) × IsHalved g nodes terms w texts vars facts halves x e × Contains (link_clauses x e) c
