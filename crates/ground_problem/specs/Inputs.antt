-- Inputs of the instances that speak of a vocabulary alone.
use Rattle.std.specs.Prelude.{◌≡◌, ℕ, List, [], ◌∷◌, Option, None, Some, Contains, slice_get}
use Rattle.form_formula.specs.declared.node.Node.{Node}
use Rattle.form_formula.specs.declared.structure.FunSig.{FunSig}
use Rattle.form_formula.specs.declared.structure.SetSig.{SetSig}
use Rattle.form_formula.specs.declared.structure.Range.{Range}
use Rattle.form_formula.specs.declared.structure.Range.TheVariants as range
use Rattle.form_formula.specs.declared.structure.Signature.{Signature}
use Rattle.form_formula.specs.Nodes as formula
use Rattle.form_formula.specs.Over.{AreComparable, IsFunction}
use Rattle.form_formula.specs.Trees.{Term as ATerm, bound, num, str, app}
use Rattle.form_terms.specs.GroundTerms.{field, record_sort, sort_of}
use Rattle.ground_terms.specs.declared.node.TermNode.{TermNode}
use Rattle.ground_terms.specs.Nodes.{IsOne, term_of, Extends}
use Rattle.form_tables.specs.Vocabulary.{Vocabulary, IsValued, told}
use Rattle.form_tables.specs.Consistent.{range_of}
use Rattle.ground_instances.specs.declared.input.Value.{Value}
use Rattle.ground_instances.specs.declared.input.Value.TheVariants.{Term, Literal}
use Rattle.ground_instances.specs.declared.input.Input.{Input}
use Rattle.ground_instances.specs.declared.input.Input.TheVariants.{There, Equal, Less, Has, Flag, Present}
use Rattle.ground_problem.specs.declared.words.PairNode.{PairNode}

-- what a term of a formula without variables gives
abbrev pub literal_range : ATerm → Option Range
literal_range (bound sort depth) = None
literal_range (num n) = Some range.Num
literal_range (str t) = Some range.Str
literal_range (app h t) = None

-- the function gives this, and no element
abbrev pub IsPlainRange : Signature → ℕ → Range → Type 0
IsPlainRange g h r = (sig : FunSig) × IsFunction g h sig × (sig.to ≡ r) × (record_sort r ≡ None)

module _ (g : Signature) (v : Vocabulary) (nodes : List Node) (terms : List TermNode) where
  -- the value is a term of the vocabulary that has things of this range, or it is a number or a text
  abbrev pub IsOfRange : Value → Range → Type 0
  IsOfRange (Term id) range = IsOne terms id × (range_of g (term_of terms id) ≡ Some range) × IsValued g v (term_of terms id)
  IsOfRange (Literal id) range = literal_range (formula.term_of nodes id) ≡ Some range

  -- the value is a term that names an element of this sort
  abbrev pub IsOfSort : Value → ℕ → Type 0
  IsOfSort (Term id) sort = IsOne terms id × (sort_of g (term_of terms id) ≡ Some sort) × Contains v.named (term_of terms id)
  IsOfSort (Literal id) sort = ⊥

  -- the function at the value is told
  abbrev pub IsToldAt : ℕ → Value → Type 0
  IsToldAt h (Term id) = Contains (told v) (field h (term_of terms id))
  IsToldAt h (Literal id) = ⊥

  -- the input is an atom over the signature that speaks of the vocabulary; its pairs apart
  abbrev pub IsToldInput : Input → Type 0
  IsToldInput (There id) = IsOne terms id × Contains v.named (term_of terms id)
  IsToldInput (Equal a b) = (range : Range) × AreComparable range × IsOfRange a range × IsOfRange b range
  IsToldInput (Less a b) = IsOfRange a range.Num × IsOfRange b range.Num
  IsToldInput (Has r a b) = (sig : SetSig) × (slice_get g.sets r ≡ Some sig) × IsOfSort a sig.from × IsOfSort b sig.to
  IsToldInput (Flag h a) = (sig : FunSig) × IsFunction g h sig × IsOfSort a sig.from × (sig.to ≡ range.Flag) × IsToldAt h a
  IsToldInput (Present h a) = (sig : FunSig) × IsFunction g h sig × IsOfSort a sig.from × IsToldAt h a

-- the value is a term
abbrev pub IsTermValue : Value → Type 0
IsTermValue (Term id) = Unit {0}
IsTermValue (Literal id) = ⊥

-- what an input says to be related, or to have something by a function, are terms
abbrev pub RelatesTerms : Input → Type 0
RelatesTerms (There id) = Unit {0}
RelatesTerms (Equal a b) = Unit {0}
RelatesTerms (Less a b) = Unit {0}
RelatesTerms (Has r a b) = IsTermValue a × IsTermValue b
RelatesTerms (Flag h a) = IsTermValue a
RelatesTerms (Present h a) = IsTermValue a

abbrev pub RelateTerms : List Input → Type 0
RelateTerms inputs = (i : Input) → Contains inputs i → RelatesTerms i

-- the pair that an input speaks of, if it speaks of one
abbrev pub pair_in : ℕ → Value → Value → List PairNode
pair_in r (Term a) (Term b) = record { relation = r; holder = a; member = b } ∷ []
pair_in r (Term a) (Literal b) = []
pair_in r (Literal a) b = []

abbrev pub pairs_in : Input → List PairNode
pairs_in (There id) = []
pairs_in (Equal a b) = []
pairs_in (Less a b) = []
pairs_in (Has r a b) = pair_in r a b
pairs_in (Flag h a) = []
pairs_in (Present h a) = []

module _ (terms : List TermNode) where
  -- the number is that of the function at the value
  abbrev pub IsFieldAt : ℕ → Value → ℕ → Type 0
  IsFieldAt h (Term id) k = IsOne terms k × (term_of terms k ≡ field h (term_of terms id))
  IsFieldAt h (Literal id) k = Unit {0}

  -- of an input with a function at a value
  abbrev pub IsFieldOf : Input → ℕ → Type 0
  IsFieldOf (There id) k = Unit {0}
  IsFieldOf (Equal a b) k = Unit {0}
  IsFieldOf (Less a b) k = Unit {0}
  IsFieldOf (Has r a b) k = Unit {0}
  IsFieldOf (Flag h a) k = IsFieldAt h a k
  IsFieldOf (Present h a) k = IsFieldAt h a k

  abbrev pub AreFieldsOf : List Input → List ℕ → Type 0
  AreFieldsOf [] [] = Unit {0}
  AreFieldsOf [] (k ∷ ks) = ⊥
  AreFieldsOf (i ∷ is) [] = ⊥
  AreFieldsOf (i ∷ is) (k ∷ ks) = IsFieldOf i k × AreFieldsOf is ks

-- the functions of inputs were added
pub record AddsFields (old new : List TermNode) (inputs : List Input) (fields : List ℕ) : Type 0 where
  pub kept : Extends old new
  pub stand : AreFieldsOf new inputs fields
